use Rattle.std.proofs.Common.{◌≡◌, ◌==◌, ℕ, ◌+◌, ◌-◌, ◌<◌, ◌++◌, cond, Bool, true, false, Option, Result, Ok, Err, OnErr, List, [], ◌∷◌, length, count_by, inl, inr, arith, ap, sym, refl, ◌∙◌, append-nil}
use Rattle.std.specs.Prelude.{option_to_list}
use Rattle.std.proofs.lemmas.List.{length-append}
use Rattle.std.proofs.lemmas.Bool.{eqb-true, false≢true}
use Rattle.std.proofs.lemmas.Result.{err_from_is_err_and}
use Rattle.mbuf_chain.specs.Steps.{one_mbuf, joined}
use Rattle.mbuf_chain.specs.Chain.{Entry, ChainView, PoolView, chain_of, references, references_of, without}
use Rattle.mbuf_chain.specs.Owners.{times_among}
use Rattle.mbuf_chain.proofs.Laws.Owners.{live_adds, shown_adds, shown_with, times-append}
use Rattle.mbuf_chain.proofs.Laws.Steps.{live_beside, live_shown, place_beside, linked_new}
use Rattle.mbuf_chain.proofs.Laws.Accounts.{references-adds}
use Rattle.flat_model.specs.Amounts.Layout.{is_cluster, Room}
use Rattle.chain_ops.specs.Stored.{Lacks, rooms_for, stored, stored_first}
use Rattle.chain_ops.proofs.Laws.Makes.{makes_new, makes_then, makes_undone, makes_held, makes_mbufs}
use Rattle.chain_ops.proofs.Laws.Steps.{kept_adds, string_one}
use Rattle.chain_ops.proofs.Laws.Rooms.{rest_rooms, rest_none}
use Rattle.chain_ops.proofs.Stored.{begin_all, more_all, begin_splits, more_splits, lacks_first, lacks_more, refs_one, refs_joined, refs_linked, ledger_step, none_free, free_more, taken_is}
use Rattle.chain_ops.proofs.store.store_rooms.Goals as goal

filled_some : (xs : List ℕ) (b : Bool) → b ≡ (length xs == 0) → b ≡ false → 0 < length xs
filled_some [] b is test = absurd (false≢true (sym test ∙ is))
filled_some (x ∷ xs) b is test = omega arith

pub first-last-requires : goal.first-last-requires
first-last-requires c = live_adds c.in_ok-chain.ensures.ok.2

pub rooms-init : goal.rooms-init
rooms-init c =
    let p : PoolView = c.args.pool.now in
    let q : PoolView = c.new_stored.new.pool in
    let d : ℕ = c.in_ok-chain.chain in
    let o : Option ℕ = c.in_ok-chain.ensures.ok.0 in
    let taken = c.in_ok-chain.ensures.ok.1 in
    let a = c.in_ok-chain.ensures.ok.2 in
    let m = makes_new a in
    let size = length c.args.bytes.now in
    let e : Entry =
    record {
      bytes = c.split_at.result.0.now;
      start = cond c.next_room-len.result.1 c.args.large c.first_start-start.result;
      cluster = o;
    } in
    let splits =
    begin_splits p c.args.large size c.next_room-len.result.0 c.split_at.result.1.now _ o c.requires.large
    (sym c.next_room-len.ensures.cluster) taken c.next_room-len.ensures.len
    (omega (arith, c.split_at.ensures.back_len)) in
    record {
      clusters = option_to_list o;
      made = record { adds = m.adds; front = m.front; entries = refl };
      all =
          begin_all p c.args.large c.args.ends o size c.args.bytes.now _ c.next_room-len.result.0
          c.first_start-start.result c.split_at.result.0.now c.split_at.result.1.now _ c.requires.large
          (sym c.next_room-len.ensures.cluster) taken
          c.next_room-len.ensures.len c.first_start-start.ensures.value c.split_at.ensures.front c.split_at.ensures.back
          (omega (arith, c.split_at.ensures.back_len)) m.entries;
      count = sym splits.count;
      number = omega (arith, splits.number, ap (λ (es : List Entry). length es) m.entries);
      refs = λ k. sym (ap (references_of k) (shown_adds a) ∙ refs_one k d true e);
      frees =
          ledger_step p q c.next_room-len.result.1 o (ap (λ (s : PoolView). s.clusters) a.pool)
          (λ k. references-adds k a ∙ ap (λ (n : ℕ). references p k + n) (refs_one k d true e)) taken;
      taken =
          free_more p [] true o (none_free p)
          (λ k e. let t = taken_is p c.next_room-len.result.1 o taken k e in (t.0, t.1, refl));
      few = omega (arith, c.split_at.ensures.back_len);
      last = c.first-last.ensures.place;
      end = omega (arith, c.first-last.ensures.index, ap (λ (es : List Entry). length es) m.entries);
    }

pub returns-in_default-clause-same : goal.returns-in_default-clause-same
returns-in_default-clause-same c =
    makes_undone _ c.rooms.invariant.made
    (c.free_chain.ensures ∙ ap (λ (s : PoolView). without s c.in_ok-chain.chain) c.in_default.ensures.same)

pub link_counted-last-requires-clause-front : goal.link_counted-last-requires-clause-front
link_counted-last-requires-clause-front c =
    live_beside _ _ _ _ c.in-Ok.ensures.ok.2 _ (live_shown _ _ _ _ c.rooms.invariant.made.adds.pool)

pub link_counted-last-requires-clause-back : goal.link_counted-last-requires-clause-back
link_counted-last-requires-clause-back c = live_adds c.in-Ok.ensures.ok.2

pub link_counted-last-requires-clause-place : goal.link_counted-last-requires-clause-place
link_counted-last-requires-clause-place c =
    place_beside _ _ _ _ _ _ c.in-Ok.ensures.ok.2 (live_shown _ _ _ _ c.rooms.invariant.made.adds.pool)
    c.rooms.invariant.last

pub link_counted-last-requires-clause-last : goal.link_counted-last-requires-clause-last
link_counted-last-requires-clause-last c =
    c.rooms.invariant.end ∙ ap (λ (v : ChainView). length v.entries)
    (sym (kept_adds _ _ _ _ _ c.in-Ok.ensures.ok.2 (live_shown _ _ _ _ c.rooms.invariant.made.adds.pool)))

pub link_counted-last-requires-clause-len : goal.link_counted-last-requires-clause-len
link_counted-last-requires-clause-len c =
    sym (string_one _ _ _ _ _ c.in-Ok.ensures.ok.2 ∙ c.split_at-in-rooms.ensures.front_len)

pub rooms-preserved : goal.rooms-preserved
rooms-preserved c =
    let p : PoolView = c.rooms.pool in
    let d : ℕ = c.in_ok-chain.chain in
    let was = c.rooms.invariant.made in
    let live = live_shown c.args.pool.now p d _ was.adds.pool in
    let o : Option ℕ = c.in-Ok.ensures.ok.0 in
    let taken = c.in-Ok.ensures.ok.1 in
    let a = c.in-Ok.ensures.ok.2 in
    let r : PoolView = c.link_counted-last.new.self in
    let is = linked_new p _ r d _ _ live a c.link_counted-last.ensures.change in
    let m = makes_then r _ was is in
    let inv = c.rooms.invariant in
    let cs : List ℕ = c.rooms.invariant.clusters in
    let size : ℕ = length c.rooms.rest.now in
    let some : 0 < size = filled_some c.rooms.rest.now _ c.is_empty.ensures c.rooms-test.true in
    let later : List ℕ = c.split_at-in-rooms.result.1.now in
    let e : Entry =
    record { bytes = c.split_at-in-rooms.result.0.now; start = cond c.next_room-next.result.1 0 20; cluster = o } in
    let v : ChainView = chain_of p d in
    let w : ChainView = one_mbuf false e c.in-Ok.back in
    let left : length later ≡ size - c.next_room-next.result.0 = omega (arith, c.split_at-in-rooms.ensures.back_len) in
    let splits =
    more_splits p size c.next_room-next.result.0 later c.next_room-next.result.1 o some
    (sym c.next_room-next.ensures.cluster) taken c.next_room-next.ensures.len left in
    let one : (k : ℕ) → references_of k w ≡ times_among k (option_to_list o) = λ k. refs_one k c.in-Ok.back false e in
    let frees =
    ledger_step p r c.next_room-next.result.1 o (ap (λ (s : PoolView). s.clusters) is)
    (λ k. refs_linked p r d k w live is ∙ ap (λ (n : ℕ). references p k + n) (one k)) taken in
    record {
      clusters = cs ++ option_to_list o;
      made = record { adds = m.adds; front = m.front ∙ was.front; entries = refl };
      all =
          more_all p (λ es. stored_first c.args.large c.args.ends es (rooms_for c.args.large (length c.args.bytes.now))
          c.args.bytes.now) o cs size c.rooms.rest.now later c.next_room-next.result.1
          c.next_room-next.result.0 c.split_at-in-rooms.result.0.now
          v.entries _ some (sym c.next_room-next.ensures.cluster) taken c.next_room-next.ensures.len
          c.split_at-in-rooms.ensures.front c.split_at-in-rooms.ensures.back left m.entries inv.all;
      count = omega (arith, inv.count, splits.count, length-append cs (option_to_list o));
      number =
          omega (
            arith,
            inv.number,
            splits.number,
            ap (λ (es : List Entry). length es) m.entries,
            length-append v.entries (e ∷ []),
          );
      refs =
          λ k. omega (
            arith,
            times-append k cs (option_to_list o),
            inv.refs k,
            ap (references_of k) (shown_with p r d (joined v w) is),
            refs_joined k v w,
            one k,
          );
      frees = omega (arith, frees, inv.frees, length-append cs (option_to_list o));
      taken = free_more c.args.pool.now cs true o inv.taken
          (λ k is'. let t = taken_is p c.next_room-next.result.1 o taken k is' in
          let n = references-adds k was.adds in (
            omega (arith, t.0, ap (λ (s : PoolView). s.clusters) was.adds.pool),
            omega (arith, t.1, n),
            omega (arith, t.1, n, inv.refs k),
          ));
      few = omega (arith, inv.few, left);
      last = c.link_counted-last.ensures.place;
      end =
          omega (
            arith,
            c.link_counted-last.ensures.index,
            inv.end,
            ap (λ (es : List Entry). length es) m.entries,
            length-append v.entries (e ∷ []),
          );
    }

pub returns-in_default-clause-err : goal.returns-in_default-clause-err
returns-in_default-clause-err c =
    let inv = c.rooms.invariant in
    let some : 0 < length c.rooms.rest.now = filled_some c.rooms.rest.now _ c.is_empty.ensures c.rooms-test.true in
    let more = lacks_more (length c.rooms.rest.now) some in
    elim c.in_default.ensures.err [
      | inl e ↦ inl (omega (arith, e, makes_held inv.made, makes_mbufs inv.made, inv.number, more.0))
      | inr t ↦ inr (omega (arith, t.1, more.1 (sym c.next_room-next.ensures.cluster ∙ t.0), inv.count, inv.frees))
    ]

on_err : {T E P : Type 0} (r : Result T E) → P → OnErr r P
on_err (Ok x) h = tt
on_err (Err y) h = h

pub returns-in_err-chain-clause-err : goal.returns-in_err-chain-clause-err
returns-in_err-chain-clause-err c =
    let first = lacks_first c.args.large (length c.args.bytes.now) c.requires.large in
    let lacks : Lacks c.args.pool.now (rooms_for c.args.large (length c.args.bytes.now)) =
    elim c.in_err-chain.ensures.err [
      | inl e ↦ inl (omega (arith, e, first.0))
      | inr t ↦ inr (omega (arith, t.1, first.1 (sym c.next_room-len.ensures.cluster ∙ t.0)))
    ] in
    on_err c.from_residual.result lacks

pub returns-clause-ok : goal.returns-clause-ok
returns-clause-ok c =
    let inv = c.rooms.invariant in
    let cs : List ℕ = c.rooms.invariant.clusters in
    let done : List Entry = (chain_of c.rooms.pool c.in_ok-chain.chain).entries in
    let z : length c.rooms.rest.now ≡ 0 =
    eqb-true (length c.rooms.rest.now) 0 (sym c.is_empty.ensures ∙ c.rooms-test.false) in
    let none : rest_rooms (length c.rooms.rest.now) ≡ [] = ap rest_rooms z ∙ rest_none in (
      cs,
      inv.taken,
      omega (arith, inv.count, ap (count_by is_cluster) none),
      record {
        adds = inv.made.adds;
        front = inv.made.front;
        entries =
            sym (append-nil done) ∙ ap (λ (rooms : List Room). done ++ stored [] rooms c.rooms.rest.now) (sym none)
            ∙ inv.all []
            ∙ ap (λ (es : List ℕ). stored_first c.args.large c.args.ends es
            (rooms_for c.args.large (length c.args.bytes.now)) c.args.bytes.now) (append-nil cs);
      },
    )

pub returns-clause-enough : goal.returns-clause-enough
returns-clause-enough c =
    let inv = c.rooms.invariant in
    let z : length c.rooms.rest.now ≡ 0 =
    eqb-true (length c.rooms.rest.now) 0 (sym c.is_empty.ensures ∙ c.rooms-test.false) in
    let none : rest_rooms (length c.rooms.rest.now) ≡ [] = ap rest_rooms z ∙ rest_none in (
      omega (
        arith,
        makes_held inv.made,
        makes_mbufs inv.made,
        inv.number,
        ap (λ (rooms : List Room). length rooms) none,
        c.laws.ensures.few,
      ),
      omega (arith, inv.count, inv.frees, ap (count_by is_cluster) none),
    )

pub returns-in_err-chain-clause-ok : goal.returns-in_err-chain-clause-ok
returns-in_err-chain-clause-ok c = rw (err_from_is_err_and c.from_residual.result c.from_residual.ensures.1).1 tt

pub returns-in_err-chain-clause-enough : goal.returns-in_err-chain-clause-enough
returns-in_err-chain-clause-enough c = rw (err_from_is_err_and c.from_residual.result c.from_residual.ensures.1).1 tt
