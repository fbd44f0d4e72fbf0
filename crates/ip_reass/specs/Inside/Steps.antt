-- What the steps of an arrival leave of a table (this project's own).
use Rattle.std.specs.Prelude.{◌≡◌, ℕ, Bool, true, not, List, ◌∷◌, slice_index_or, slice_set, remove, None}
use Rattle.std.specs.Bool.{OnTrue, OnFalse}
use Rattle.flat_model.specs.Fragments.Overlay.{overlay, is_covered}
use Rattle.mbuf_chain.specs.Chain.{PoolView, chain_of, alone}
use Rattle.mbuf_chain.specs.Owners.{Moves}
use Rattle.mbuf_chain.specs.Train.{TrainView, numbers}
use Rattle.ip_reass.specs.Fragments.{QueuedFragment, IsQueue, bytes_held, fragment_of, fragments, map_of, queued, inserted_into, joined_fragments}
use Rattle.ip_reass.specs.Layouts.{queue_of, queues, with_inserted}
use Rattle.ip_reass.specs.Table.{IsTable, held_all, unfinished, unfinished_of}
use Rattle.ip_reass.specs.declared.datagram.Datagram.{Datagram}

abbrev pub no_datagram : Datagram
no_datagram = record {
  key = record { source = 0; destination = 0; id = 0; protocol = 0 };
  holder = 0;
  ticks = 0;
  fragments = record { first = None; last = None; len = 0 };
  bytes = 0;
}

-- the datagram at a place
abbrev pub datagram_at : List Datagram → ℕ → Datagram
datagram_at ds i = slice_index_or ds i no_datagram

-- from p and d to q and e, chain c, which is the fragment f, was put among the fragments of a datagram, unless nothing
-- of it was left
pub record IsInserted (p : PoolView) (d : Datagram) (c : ℕ) (f : QueuedFragment) (answer : Bool) (q : PoolView)
    (e : Datagram) : Type 0 where
  pub same : e ≡ record d { fragments = e.fragments; bytes = e.bytes }
  pub covered : is_covered (map_of (fragments p d.fragments)) (fragment_of f) ≡ not answer
  pub map : OnTrue answer (map_of (fragments q e.fragments)
      ≡ overlay (map_of (fragments p d.fragments)) (fragment_of f))
  pub inserted : OnTrue answer (queued q e.fragments ≡ inserted_into f (queued p d.fragments))
  pub none : OnFalse answer (queued q e.fragments ≡ queued p d.fragments)
  pub queue : IsQueue q e.fragments
  pub counted : e.bytes ≡ bytes_held (fragments q e.fragments)
  pub moves : Moves p (c ∷ numbers p d.fragments) q (numbers q e.fragments)

-- from p and ds to q and es, chain c, which is the fragment f, was put among the fragments of datagram i
pub record InsertsIn (p : PoolView) (ds : List Datagram) (i c : ℕ) (f : QueuedFragment) (answer : Bool) (q : PoolView)
    (es : List Datagram) : Type 0 where
  pub train : TrainView
  pub bytes : ℕ
  pub change : es ≡ slice_set ds i (record (datagram_at ds i) { fragments = train; bytes = bytes })
  pub covered : is_covered (map_of (fragments p (datagram_at ds i).fragments)) (fragment_of f) ≡ not answer
  pub shows : OnTrue answer (unfinished q es
      ≡ slice_set (unfinished p ds) i (record (unfinished_of p (datagram_at ds i))
      { bytes = overlay (map_of (fragments p (datagram_at ds i).fragments)) (fragment_of f) }))
  pub map : OnTrue answer (map_of (fragments q train)
      ≡ overlay (map_of (fragments p (datagram_at ds i).fragments)) (fragment_of f))
  pub queue : OnTrue answer (queued q train ≡ inserted_into f (queued p (datagram_at ds i).fragments))
  pub same : OnFalse answer (unfinished q es ≡ unfinished p ds)
  pub rows : OnTrue answer (queues q es ≡ slice_set (queues p ds) i (with_inserted f (queue_of p (datagram_at ds i))))
  pub rows_same : OnFalse answer (queues q es ≡ queues p ds)
  pub table : IsTable q es
  pub moves : Moves p (c ∷ held_all p ds) q (held_all q es)

-- from p and ds to q and es, datagram i was removed, and chain c is what it carries
pub record TakesOut (p : PoolView) (ds : List Datagram) (i c : ℕ) (q : PoolView) (es : List Datagram) : Type 0 where
  pub change : es ≡ remove ds i
  pub entries : (chain_of q c).entries ≡ joined_fragments (queued p (datagram_at ds i).fragments)
  pub front : (chain_of q c).front ≡ alone true
  pub shows : unfinished q es ≡ remove (unfinished p ds) i
  pub rows : queues q es ≡ remove (queues p ds) i
  pub table : IsTable q es
  pub moves : Moves p (held_all p ds) q (c ∷ held_all q es)
