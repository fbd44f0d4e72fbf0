use Rattle.std.proofs.Common.{◌≡◌, ℕ, ◌+◌, ◌++◌, ◌∷◌, [], Bool, true, false, is_some, None, Some, List, Option, length, take, drop, arith, ap, sym, refl, ◌∙◌, append-nil}
use Rattle.std.specs.Prelude.{slice_set, is_none, not}
use Rattle.std.proofs.lemmas.Bool.{true≢false}
use Rattle.std.proofs.lemmas.List.{take_all, take_more, drop-set-lt, length-set}
use Rattle.std.proofs.lemmas.Result.{err_from_is_err_and}
use Rattle.mbuf_chain.specs.declared.place.Segment.{Segment}
use Rattle.mbuf_chain.specs.Chain.{Entry, Front, ChainView, PoolView, no_entry, alone, chain_of, entry_of, with_chain, without, flat_bytes, string}
use Rattle.mbuf_chain.specs.Steps.{narrowed, first_part}
use Rattle.mbuf_chain.proofs.Laws.Accounts.{held-without}
use Rattle.mbuf_chain.proofs.Laws.Owners.{live_here, live_adds, shown_adds, shown_with, kept_with, chain_here, chain_left}
use Rattle.mbuf_chain.proofs.Laws.Steps.{live_beside, live_shown, place_after, apart}
use Rattle.chain_ops.specs.Makes.{HasMbufs, Parts}
use Rattle.chain_ops.specs.Splits.{rest_of, split_back, split_front, split_need}
use Rattle.chain_ops.proofs.Lists.{another_follows, none_after, flat_at}
use Rattle.chain_ops.proofs.Laws.Makes.{makes_new, makes_as, makes_held, makes_mbufs, makes_kept}
use Rattle.chain_ops.proofs.Laws.Strings.{split_front_bytes, split_back_bytes}
use Rattle.chain_ops.proofs.Laws.Steps.{place_in, kept_adds}
use Rattle.chain_ops.proofs.Trims.{entries_now, length_now}
use Rattle.mbuf_chain.proofs.Laws.Two.{HasTwo, two_new, two_first, two_moved, two_parts}
use Rattle.chain_ops.proofs.Splits.{front_done, back_done, need_done, rest-none, whole_entry, is_end}
use Rattle.chain_ops.proofs.split.m_split.Goals as goal
use Rattle.chain_ops.proofs.split.m_split.Goals.{After-cut-back, After-laws-2, After-narrow, In_ok-head}

no_next : {A : Type 0} (o : Option A) (b : Bool) → is_some o ≡ not b → b ≡ true → is_none o ≡ true
no_next None b e t = refl
no_next (Some x) b e t = absurd (true≢false (e ∙ ap not t))

pub overflow_add-place : goal.overflow_add-place
overflow_add-place c =
    omega (
      arith,
      c.find_cut-off.ensures.place.within,
      held-without c.args.pool.now _ c.args.chain.now c.requires.live refl,
      c.laws.ensures.few,
      c.laws.ensures.small,
    )

pub cut-requires-clause-within : goal.cut-requires-clause-within
cut-requires-clause-within c =
    another_follows (chain_of c.args.pool.now c.args.chain.now) c.find_cut-off.result.0 c.find_cut-off.ensures.place
    (omega (
      arith,
      c.find_cut-off.ensures.after,
      c.if-off-len.true,
      ap (λ (x : Segment). x.len) c.segment-len.ensures.value,
    ))

-- ---- after the first mbufs of the new chain were made, and the chain was narrowed
kept : (c : In_ok-head) → chain_of c.new_head.new.pool c.args.chain.now ≡ chain_of c.args.pool.now c.args.chain.now
kept c = makes_kept c.args.chain.now c.in_ok-head.ensures.ok c.requires.live

two : (c : After-narrow)
    → HasTwo (without c.args.pool.now c.args.chain.now) c.narrow.new.self c.args.chain.now c.in_ok-head.head
two c =
    two_first c.narrow.new.self _ (two_new c.args.chain.now c.requires.live c.in_ok-head.ensures.ok.adds)
    c.narrow.ensures

-- the mbufs of a chain, with one narrowed to its first bytes
abbrev ending : ChainView → ℕ → ℕ → List Entry
ending v i off = slice_set v.entries i (narrowed (entry_of v i) 0 off)

now : (c : After-narrow) → chain_of c.new_head.new.pool c.args.chain.now ≡ chain_of c.args.pool.now c.args.chain.now
    → (chain_of c.narrow.new.self c.args.chain.now).entries
    ≡ ending (chain_of c.args.pool.now c.args.chain.now) c.find_cut-off.result.0.index c.find_cut-off.result.1
now c is =
    entries_now _ _ _ _ _ c.narrow.ensures
    ∙ ap (λ (x : ChainView). ending x c.find_cut-off.result.0.index c.find_cut-off.result.1) is

now_front : (c : After-narrow)
    → chain_of c.new_head.new.pool c.args.chain.now ≡ chain_of c.args.pool.now c.args.chain.now
    → (chain_of c.narrow.new.self c.args.chain.now).front ≡ (chain_of c.args.pool.now c.args.chain.now).front
now_front c is =
    ap (λ (x : ChainView). x.front) (shown_with _ c.narrow.new.self c.args.chain.now _ c.narrow.ensures)
    ∙ ap (λ (x : ChainView). x.front) is

enough : (c : After-laws-2) → HasMbufs c.args.pool.now
    (split_need (chain_of c.args.pool.now c.args.chain.now).front.header
    (chain_of c.args.pool.now c.args.chain.now).entries c.args.at)
enough c =
    let v : ChainView = chain_of c.args.pool.now c.args.chain.now in
    omega (
      arith,
      makes_held c.in_ok-head.ensures.ok,
      makes_mbufs c.in_ok-head.ensures.ok,
      c.laws-2.ensures.few,
      need_done v c.find_cut-off.result.0 c.find_cut-off.result.1 c.has_header-header.result
          c.find_cut-off.ensures.place c.find_cut-off.ensures.within,
      c.find_cut-off.ensures.need c.has_header-header.result,
      ap (λ (h : Bool). split_need h v.entries c.args.at) c.has_header-header.ensures,
    )

-- ---- after the chain was cut
cut : (c : After-cut-back)
    → HasTwo (without c.args.pool.now c.args.chain.now) c.narrow.new.self c.args.chain.now c.in_ok-head.head
    → HasTwo (without c.args.pool.now c.args.chain.now)
    (with_chain c.narrow.new.self c.args.chain.now
    (first_part (c.find_cut-off.result.0.index + 1) (chain_of c.narrow.new.self c.args.chain.now)))
    c.args.chain.now c.in_ok-head.head
cut c both = two_first _ _ both refl

rest : (c : After-cut-back) → (chain_of c.narrow.new.self c.args.chain.now).entries
    ≡ ending (chain_of c.args.pool.now c.args.chain.now) c.find_cut-off.result.0.index c.find_cut-off.result.1
    → (chain_of c.cut-back.new.self c.cut-back.result).entries
    ≡ drop (c.find_cut-off.result.0.index + 1) (chain_of c.args.pool.now c.args.chain.now).entries
rest c is =
    ap (λ (x : ChainView). x.entries) (shown_adds c.cut-back.ensures)
    ∙ ap (λ (es : List Entry). drop (c.find_cut-off.result.0.index + 1) es) is
    ∙ drop-set-lt (c.find_cut-off.result.0.index + 1) (chain_of c.args.pool.now c.args.chain.now).entries
    c.find_cut-off.result.0.index _ (omega arith)

-- ---- what the two chains have in the end
parts : (c : After-laws-2) (t : PoolView)
    → HasTwo (without c.args.pool.now c.args.chain.now) t c.args.chain.now c.in_ok-head.head
    → (chain_of t c.args.chain.now).front ≡ (chain_of c.args.pool.now c.args.chain.now).front
    → (chain_of t c.args.chain.now).entries ≡ take (c.find_cut-off.result.0.index + 1)
    (ending (chain_of c.args.pool.now c.args.chain.now) c.find_cut-off.result.0.index c.find_cut-off.result.1)
    → (chain_of t c.in_ok-head.head).front ≡ (chain_of c.new_head.new.pool c.in_ok-head.head).front
    → (chain_of t c.in_ok-head.head).entries
    ≡ rest_of c.has_header-header.result
    (entry_of (chain_of c.args.pool.now c.args.chain.now) c.find_cut-off.result.0.index) c.find_cut-off.result.1
    ++ drop (c.find_cut-off.result.0.index + 1) (chain_of c.args.pool.now c.args.chain.now).entries
    → Parts c.args.pool.now t c.args.chain.now c.in_ok-head.head (chain_of c.args.pool.now c.args.chain.now).front
    (split_front (chain_of c.args.pool.now c.args.chain.now).entries c.args.at)
    (alone (chain_of c.args.pool.now c.args.chain.now).front.header)
    (split_back (chain_of c.args.pool.now c.args.chain.now).front.header
    (chain_of c.args.pool.now c.args.chain.now).entries c.args.at)
parts c t both front entries made_front made =
    let k : ℕ = c.args.chain.now in
    let v : ChainView = chain_of c.args.pool.now k in
    let at = c.find_cut-off.result.0 in
    let h : Bool = c.has_header-header.result in
    record {
      made =
          makes_as (with_chain c.args.pool.now k (chain_of t k)) (alone v.front.header)
          (split_back v.front.header v.entries c.args.at)
          (makes_new (two_parts c.args.pool.now t k c.in_ok-head.head both)) refl
          (made_front ∙ c.in_ok-head.ensures.ok.front ∙ ap alone c.has_header-header.ensures)
          (made ∙ back_done v at _ h c.find_cut-off.ensures.place c.find_cut-off.ensures.within
          ∙ sym (c.find_cut-off.ensures.back h)
          ∙ ap (λ (b : Bool). split_back b v.entries c.args.at) c.has_header-header.ensures);
      front = front;
      entries =
          entries ∙ front_done v at _ c.find_cut-off.ensures.place c.find_cut-off.ensures.within
          ∙ sym c.find_cut-off.ensures.front;
    }

-- ---- the bytes of the two parts
front_bytes : {p q : PoolView} {k d : ℕ} {f g : Front} {fs : List Entry} (at : ℕ)
    → Parts p q k d f (split_front (chain_of p k).entries at) g fs
    → string (chain_of q k) ≡ take at (string (chain_of p k))
front_bytes {p} {q} {k} at parts = ap flat_bytes parts.entries ∙ split_front_bytes (chain_of p k).entries at

back_bytes : {p q : PoolView} {k d : ℕ} {f g : Front} {es : List Entry} (at : ℕ)
    → Parts p q k d f es g (split_back (chain_of p k).front.header (chain_of p k).entries at)
    → string (chain_of q d) ≡ drop at (string (chain_of p k))
back_bytes {p} {q} {k} at parts =
    ap flat_bytes parts.made.entries ∙ split_back_bytes (chain_of p k).front.header (chain_of p k).entries at

pub narrow-requires-clause-live : goal.narrow-requires-clause-live
narrow-requires-clause-live c = (two_new c.args.chain.now c.requires.live c.in_ok-head.ensures.ok.adds).live_first

pub narrow-requires-clause-place : goal.narrow-requires-clause-place
narrow-requires-clause-place c =
    place_in c.args.pool.now c.new_head.new.pool _ _ (kept (goal.at.narrow-requires-clause-place c).In_ok-head)
    c.find_cut-off.ensures.place

pub narrow-requires-clause-within : goal.narrow-requires-clause-within
narrow-requires-clause-within c =
    omega (
      arith,
      c.find_cut-off.ensures.within,
      ap (λ (v : ChainView). length (entry_of v c.find_cut-off.result.0.index).bytes)
          (kept (goal.at.narrow-requires-clause-within c).In_ok-head),
    )

pub next-requires-clause-live : goal.next-requires-clause-live
next-requires-clause-live c = live_shown _ _ _ _ c.narrow.ensures

pub next-requires-clause-place : goal.next-requires-clause-place
next-requires-clause-place c =
    place_after _ _ _ _ _ _ c.narrow.ensures
    (place_in c.args.pool.now c.new_head.new.pool _ _ (kept (goal.at.next-requires-clause-place c).In_ok-head)
    c.find_cut-off.ensures.place)

pub returns-then-off-len-clause-ok : goal.returns-then-off-len-clause-ok
returns-then-off-len-clause-ok c =
    let p : PoolView = c.args.pool.now in
    let k : ℕ = c.args.chain.now in
    let v : ChainView = chain_of p k in
    let i : ℕ = c.find_cut-off.result.0.index in
    let off : ℕ = c.find_cut-off.result.1 in
    let e : Entry = entry_of v i in
    let place = c.find_cut-off.ensures.place in
    let z : off ≡ length e.bytes = c.if-off-len.true ∙ ap (λ (x : Segment). x.len) c.segment-len.ensures.value in
    let h : v.front.header ≡ false = sym c.has_header-header.ensures ∙ c.if-not-header.true in
    let here : chain_of c.cut.new.self k ≡ first_part (i + 1) v =
    kept_adds _ c.cut.new.self c.cut.result k _ c.cut.ensures (live_here p k (first_part (i + 1) v))
    ∙ chain_here p k (first_part (i + 1) v) in
    let m = makes_new c.cut.ensures in
    record {
      made =
          makes_as (with_chain p k (chain_of c.cut.new.self k)) (alone v.front.header)
          (split_back v.front.header v.entries c.args.at) m (ap (with_chain p k) (sym here)) (ap alone (sym h))
          (sym (c.find_cut-off.ensures.back v.front.header
          ∙ sym (back_done v c.find_cut-off.result.0 off v.front.header place c.find_cut-off.ensures.within)
          ∙ ap (λ (b : Bool). rest_of b e off ++ drop (i + 1) v.entries) h
          ∙ ap (λ (es : List Entry). es ++ drop (i + 1) v.entries) (rest-none e off z)));
      front = ap (λ (x : ChainView). x.front) here;
      entries =
          ap (λ (x : ChainView). x.entries) here ∙ take_more v.entries i no_entry place.within
          ∙ ap (λ (f : Entry). take i v.entries ++ (f ∷ [])) (sym (whole_entry e off z))
          ∙ sym (Rattle.std.proofs.lemmas.List.take_more_set v.entries i (narrowed e 0 off) place.within)
          ∙ front_done v c.find_cut-off.result.0 off place c.find_cut-off.ensures.within
          ∙ sym c.find_cut-off.ensures.front;
    }

pub returns-then-is_none-clause-enough : goal.returns-then-is_none-clause-enough
returns-then-is_none-clause-enough c = enough (goal.at.returns-then-is_none-clause-enough c).After-laws-2

pub returns-clause-enough : goal.returns-clause-enough
returns-clause-enough c = enough (goal.at.returns-clause-enough c).After-laws-2

pub last-last-requires : goal.last-last-requires
last-last-requires c =
    let at = goal.at.last-last-requires c in
    live_beside _ _ _ _ c.cut-back.ensures _ (cut at.After-cut-back (two at.After-narrow)).live_second

pub link_rest-requires-clause-back : goal.link_rest-requires-clause-back
link_rest-requires-clause-back c = live_adds c.cut-back.ensures

pub link_rest-requires-clause-apart : goal.link_rest-requires-clause-apart
link_rest-requires-clause-apart c =
    let at = goal.at.link_rest-requires-clause-apart c in
    apart _ _ _ _ c.cut-back.ensures _ (cut at.After-cut-back (two at.After-narrow)).live_second

pub returns-then-is_none-clause-ok : goal.returns-then-is_none-clause-ok
returns-then-is_none-clause-ok c =
    let at = goal.at.returns-then-is_none-clause-ok c in
    let v : ChainView = chain_of c.args.pool.now c.args.chain.now in
    let i : ℕ = c.find_cut-off.result.0.index in
    let both = two at.After-narrow in
    let same = kept at.In_ok-head in
    let kept_d =
    kept_with c.new_head.new.pool c.narrow.new.self c.args.chain.now _ c.in_ok-head.head c.narrow.ensures
    (λ x. both.apart (sym x)) in
    let end =
    is_end _ _ _ c.next.ensures (no_next c.next.result c.is_none.result c.is_none.ensures c.if-is_none.true)
    ∙ length_now _ c.narrow.new.self c.args.chain.now i _ c.narrow.ensures
    ∙ ap (λ (x : ChainView). length x.entries) same in
    parts at.After-laws-2 c.narrow.new.self both (now_front at.After-narrow same)
    (now at.After-narrow same
    ∙ sym (take_all (i + 1) _
    (omega (arith, end, length-set v.entries i (narrowed (entry_of v i) 0 c.find_cut-off.result.1)))))
    (ap (λ (x : ChainView). x.front) kept_d)
    (ap (λ (x : ChainView). x.entries) kept_d ∙ c.in_ok-head.ensures.ok.entries ∙ sym (append-nil _)
    ∙ ap (λ (fs : List Entry). rest_of c.has_header-header.result (entry_of v i) c.find_cut-off.result.1 ++ fs)
    (sym (none_after v.entries i end)))

pub link_rest-requires-clause-len : goal.link_rest-requires-clause-len
link_rest-requires-clause-len c = λ counted.
    let at = goal.at.link_rest-requires-clause-len c in
    omega (
      arith,
      c.counted_len-counted.ensures counted,
      ap (λ (es : List Entry). length (flat_bytes es))
          (rest at.After-cut-back (now at.After-narrow (kept at.In_ok-head))),
      flat_at (chain_of c.args.pool.now c.args.chain.now) c.find_cut-off.result.0 c.find_cut-off.ensures.place,
      c.find_cut-off.ensures.left,
      c.find_cut-off.ensures.within,
      ap (λ (x : Segment). x.len) c.segment-len.ensures.value,
      c.saturating_sub-moved.ensures,
      c.saturating_sub.ensures,
      c.saturating_sub-rest.ensures,
    )

pub returns-clause-ok : goal.returns-clause-ok
returns-clause-ok c =
    let at = goal.at.returns-clause-ok c in
    let k : ℕ = c.args.chain.now in
    let q : PoolView = c.new_head.new.pool in
    let r : PoolView = c.narrow.new.self in
    let s : PoolView = c.cut-back.new.self in
    let t : PoolView = c.link_rest.new.pool in
    let d : ℕ = c.in_ok-head.head in
    let b : ℕ = c.cut-back.result in
    let i : ℕ = c.find_cut-off.result.0.index in
    let same = kept at.In_ok-head in
    let both = two at.After-narrow in
    let after = cut at.After-cut-back both in
    let part : ChainView = first_part (i + 1) (chain_of r k) in
    let is = now at.After-narrow same in
    let here : chain_of t k ≡ part =
    kept_with _ t d _ k c.link_rest.ensures both.apart
    ∙ chain_left s b k (apart _ _ _ _ c.cut-back.ensures k after.live_first)
    ∙ kept_adds _ s b k _ c.cut-back.ensures after.live_first ∙ chain_here r k part in
    let head : chain_of s d ≡ chain_of q d =
    kept_adds _ s b d _ c.cut-back.ensures after.live_second
    ∙ kept_with r (with_chain r k part) k part d refl (λ x. both.apart (sym x))
    ∙ kept_with q r k _ d c.narrow.ensures (λ x. both.apart (sym x)) in
    let shown = shown_with _ t d _ c.link_rest.ensures in
    let back = rest at.After-cut-back is in
    let front' = ap (λ (x : ChainView). x.entries) head ∙ c.in_ok-head.ensures.ok.entries in
    parts at.After-laws-2 t (two_moved s t b part _ _ both c.cut-back.ensures c.link_rest.ensures)
    (ap (λ (x : ChainView). x.front) here ∙ now_front at.After-narrow same)
    (ap (λ (x : ChainView). x.entries) here ∙ ap (λ (es : List Entry). take (i + 1) es) is)
    (ap (λ (x : ChainView). x.front) shown ∙ ap (λ (x : ChainView). x.front) head)
    (ap (λ (x : ChainView). x.entries) shown ∙ (λ j. front' j ++ back j))

pub returns-then-off-len-clause-front : goal.returns-then-off-len-clause-front
returns-then-off-len-clause-front c = front_bytes c.args.at (returns-then-off-len-clause-ok c)

pub returns-then-off-len-clause-back : goal.returns-then-off-len-clause-back
returns-then-off-len-clause-back c = back_bytes c.args.at (returns-then-off-len-clause-ok c)

pub returns-then-is_none-clause-front : goal.returns-then-is_none-clause-front
returns-then-is_none-clause-front c = front_bytes c.args.at (returns-then-is_none-clause-ok c)

pub returns-then-is_none-clause-back : goal.returns-then-is_none-clause-back
returns-then-is_none-clause-back c = back_bytes c.args.at (returns-then-is_none-clause-ok c)

pub returns-clause-front : goal.returns-clause-front
returns-clause-front c = front_bytes c.args.at (returns-clause-ok c)

pub returns-clause-back : goal.returns-clause-back
returns-clause-back c = back_bytes c.args.at (returns-clause-ok c)

pub returns-in_err-head-clause-ok : goal.returns-in_err-head-clause-ok
returns-in_err-head-clause-ok c = rw (err_from_is_err_and c.from_residual.result c.from_residual.ensures.1).1 tt

pub returns-in_err-head-clause-front : goal.returns-in_err-head-clause-front
returns-in_err-head-clause-front c = rw (err_from_is_err_and c.from_residual.result c.from_residual.ensures.1).1 tt

pub returns-in_err-head-clause-back : goal.returns-in_err-head-clause-back
returns-in_err-head-clause-back c = rw (err_from_is_err_and c.from_residual.result c.from_residual.ensures.1).1 tt

pub returns-in_err-head-clause-enough : goal.returns-in_err-head-clause-enough
returns-in_err-head-clause-enough c = rw (err_from_is_err_and c.from_residual.result c.from_residual.ensures.1).1 tt
