use Rattle.std.proofs.Common.{◌≡◌, ◌*◌, ◌<◌, ◌++◌, ◌∷◌, [], Bool, List, None, length, find, sym, ap, ◌∙◌, subst, arith, inr}
use Rattle.std.specs.Prelude.{count_by}
use Rattle.ip_reass.specs.Inside.Index.{Indexes, buckets_of}
use Rattle.ip_reass.specs.Inside.Place.{RequestsMbuf}
use Rattle.ip_reass.specs.Table.{TableView, has_key, new_datagram}
use Rattle.ip_reass.specs.declared.datagram.Datagram.{Datagram}
use Rattle.ip_reass.proofs.IndexAfter.{begun, first_same, once_held}
use Rattle.ip_reass.proofs.PlaceOf.{asks}
use Rattle.ip_reass.proofs.Queues.{few_reserved}
use Rattle.ip_reass.proofs.table.Reass.place_of.Goals.{After-as_slice, After-as_slice-i, After-reserve, In_default}
use Rattle.ip_reass.proofs.table.Reass.place_of.Goals as goal

-- the table is searched
rows : (c : After-as_slice) → c.as_slice.result.now ≡ c.args.self.now.datagrams
rows c = c.as_slice.ensures.value ∙ ap (λ (r : TableView). r.datagrams) c.self.view_is

pub find-requires : goal.find-requires
find-requires c =
    let same = rows (goal.at.find-requires c).After-as_slice in
    record {
      indexes = record {
        some = c.self.invariant.2.some;
        rows =
            first_same c.self.inside.index.buckets
            (buckets_of c.self.inside.index.count c.self.inside.datagrams.items)
            (buckets_of c.self.inside.index.count c.as_slice.result.now) c.self.invariant.2.rows
            (ap (buckets_of c.self.inside.index.count) (sym c.as_slice.ensures.value));
      };
      room =
          omega (
            arith,
            ap (λ (ds : List Datagram). length ds) same,
            ap (λ (r : TableView). r.room) c.self.view_is,
            c.requires.few,
            c.requires.ready.room,
          );
      once =
          omega (
            arith,
            ap (λ (ds : List Datagram). count_by (has_key c.args.key) ds) same,
            once_held c.args.pool.now c.args.key c.args.self.now.datagrams,
            c.requires.ready.distinct c.args.key,
          );
    }

fresh : (c : In_default) → c.as_slice.result.now ≡ c.args.self.now.datagrams
    → find (has_key c.args.key) c.args.self.now.datagrams ≡ None
fresh c rows = ap (λ (ds : List Datagram). find (has_key c.args.key) ds) (sym rows) ∙ c.in_default.ensures.found

-- the index may have more rows now
searched : (c : After-reserve)
    → record { datagrams = c.self.inside.datagrams.items; room = c.find.new.index.room } ≡ c.args.self.now
searched c = λ i. record {
  datagrams = (ap (λ (r : TableView). r.datagrams) c.self.view_is) i;
  room = (c.find.ensures.room ∙ ap (λ (r : TableView). r.room) c.self.view_is) i;
}

-- an mbuf is requested
asked : (c : After-reserve) (answer : Bool) → c.reserve.result ≡ answer
    → RequestsMbuf c.args.pool.now c.args.self.now c.args.counters.now answer c.reserve.new.pool c.reserve.new.waiting
    c.reserve.new.counters
asked c answer is =
    let r : TableView = record { datagrams = c.self.inside.datagrams.items; room = c.find.new.index.room } in
    subst (λ (s : TableView). RequestsMbuf c.args.pool.now s c.args.counters.now answer c.reserve.new.pool
    c.reserve.new.waiting c.reserve.new.counters) (searched c)
    (subst (λ (b : Bool). RequestsMbuf c.args.pool.now r c.args.counters.now b c.reserve.new.pool
    c.reserve.new.waiting c.reserve.new.counters) is
    (asks c.args.pool.now c.reserve.new.pool r c.reserve.new.waiting c.args.counters.now
    c.reserve.new.counters c.reserve.result c.reserve.ensures.reserves c.reserve.ensures.moves
    c.reserve.ensures.ready c.reserve.ensures.answer c.reserve.ensures.kept c.reserve.ensures.none))

few : (c : After-reserve) → 2 * length c.reserve.new.waiting.datagrams < c.reserve.new.pool.mbufs
few c =
    let r : TableView = record { datagrams = c.self.inside.datagrams.items; room = c.find.new.index.room } in
    few_reserved c.args.pool.now c.reserve.new.pool r c.reserve.new.waiting c.args.counters.now
    c.reserve.new.counters _ c.reserve.ensures.kept c.reserve.ensures.none c.reserve.ensures.moves.mbufs
    (omega (arith, c.requires.few, ap (λ (s : TableView). length s.datagrams) (searched c)))

pub returns-then-not-reserve : goal.returns-then-not-reserve
returns-then-not-reserve c =
    let at = goal.at.returns-then-not-reserve c in (
      fresh at.In_default (rows at.After-as_slice),
      asked at.After-reserve _ c.if-not-reserve.true,
    )

-- the datagram is added
len_is : (c : After-as_slice-i) → c.as_slice-i.result.now ≡ c.reserve.new.waiting.datagrams
len_is c = c.as_slice-i.ensures.value ∙ ap (λ (r : TableView). r.datagrams) c.self-2.view_is

pub begin-requires : goal.begin-requires
begin-requires c =
    let at = goal.at.begin-requires c in
    omega (
      arith,
      c.as_slice-i.ensures.len,
      ap (λ (ds : List Datagram). length ds) (len_is at.After-as_slice-i),
      ap (λ (r : TableView). r.room) c.self-2.view_is,
      c.reserve.ensures.ready.room,
      few at.After-reserve,
    )

pub invariant_of-self : goal.invariant_of-self
invariant_of-self c = (
  c.self.invariant.0,
  omega (arith, c.find.ensures.room, c.self.invariant.1),
  subst (Indexes c.find.new.index) c.as_slice.ensures.value c.find.ensures.indexes,
)

pub invariant_of-self-3 : goal.invariant_of-self-3
invariant_of-self-3 c =
    let at = goal.at.invariant_of-self-3 c in (
      omega (
        arith,
        c.begin.ensures.len,
        c.as_slice-i.ensures.len,
        ap (λ (ds : List Datagram). length ds) (len_is at.After-as_slice-i),
        few at.After-reserve,
        c.laws.ensures.small,
      ),
      omega (arith, c.begin.ensures.capacity, c.self-2.invariant.1),
      record {
        some = c.self-2.invariant.2.some;
        rows =
            begun c.self-2.inside.index.count c.self-2.inside.index.buckets c.self-2.inside.datagrams.items
            c.begin.new.table.items (new_datagram c.args.key c.in-Ok.holder) c.self-2.invariant.2.rows
            c.begin.ensures.items;
      },
    )

pub returns : goal.returns
returns c =
    let at = goal.at.returns c in
    inr (
      fresh at.In_default (rows at.After-as_slice),
      record {
        mid = c.reserve.new.pool;
        left = c.reserve.new.waiting;
        holder = c.in-Ok.holder;
        asked = asked at.After-reserve _ c.if-not-reserve.false;
        adds = c.in-Ok.ensures.ok;
        change =
            c.begin.ensures.items ∙ (λ j. (ap (λ (r : TableView). r.datagrams) c.self-2.view_is) j
            ++ new_datagram c.args.key c.in-Ok.holder ∷ []);
        room = ap (λ (r : TableView). r.room) c.self-2.view_is;
        place = ap (λ (ds : List Datagram). length ds) (len_is at.After-as_slice-i);
      },
    )
