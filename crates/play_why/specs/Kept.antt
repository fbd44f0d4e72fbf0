-- The fragments that a judge keeps, and those that are dropped unfinished (this project's own).
use Rattle.std.specs.Prelude.{◌≡◌, ℕ, zero, suc, ◌&&◌, ◌||◌, Bool, true, false, not, List, [], ◌∷◌, ◌++◌, length, slice_get, flat_map, if◌then◌else◌, Option, Some, None}
use Rattle.std.specs.List.{filter}
use Rattle.flat_model.specs.Amounts.Choice.{Choice}
use Rattle.flat_model.specs.Machine.State.{State, Unfinished}
use Rattle.flat_model.specs.declared.counter.Counter.TheVariants.{IpFragtimeout, IpReclaimed}
use Rattle.flat_model.specs.declared.counters.Counters.{Counters}
use Rattle.flat_model.specs.declared.fragment_key.FragmentKey.{FragmentKey}
use Rattle.ip_reass.specs.Questions.{nth_unfinished}
use Rattle.ip_reass.specs.declared.questions.UnfinishedDatagram.{UnfinishedDatagram}
use Rattle.play_text.specs.Fates.{drops_of, fate_of, is_some_true}
use Rattle.play_text.specs.Words.{rose}
use Rattle.play_text.specs.declared.fate.Fate.{Fate}
use Rattle.play_text.specs.declared.fate.Fate.TheVariants.{Whole, Kept, Other}
use Rattle.play_why.specs.Joined.{joined_of}
use Rattle.play_why.specs.Keys.{key_of, offset_of, same_key}
use Rattle.play_why.specs.Values.{carried_of}
use Rattle.play_why.specs.declared.parts.Loss.{Loss}
use Rattle.play_why.specs.declared.parts.Loss.TheVariants.{Expired, Reclaimed}
use Rattle.play_why.specs.declared.parts.Lost.{Lost}
use Rattle.play_why.specs.declared.parts.Part.{Part}
use Rattle.play_why.specs.declared.parts.Parts.{Parts}

-- ---- a datagram's fragments

abbrev pub number_if : FragmentKey → Part → List ℕ
number_if key part = if same_key part.key key then part.number ∷ [] else []

-- the records of a datagram's fragments, in the order in which they arrived
abbrev pub numbers_of : FragmentKey → List Part → List ℕ
numbers_of key = flat_map (number_if key)

-- the records for the datagram of a packet, if it's a fragment
abbrev pub numbers_by : Option FragmentKey → List Part → List ℕ
numbers_by None parts = []
numbers_by (Some key) parts = numbers_of key parts

-- ---- datagrams that a machine drops unfinished

abbrev pub has_same_key : FragmentKey → Option UnfinishedDatagram → Bool
has_same_key key None = false
has_same_key key (Some d) = same_key d.key key

-- one of the first n unfinished datagrams has this key
unfoldable pub unfinished_below : ℕ → FragmentKey → List Unfinished → Bool
unfinished_below zero key us = false
unfinished_below (suc n) key us = unfinished_below n key us || has_same_key key (nth_unfinished n us)

-- one of all unfinished datagrams has it
abbrev pub is_unfinished : FragmentKey → List Unfinished → Bool
is_unfinished key us = unfinished_below (length us) key us

abbrev pub is_spared : Option FragmentKey → Part → Bool
is_spared None part = false
is_spared (Some key) part = same_key part.key key

abbrev pub lost_if : Bool → Loss → Part → List Lost
lost_if stays why part = if stays then [] else record { key = part.key; number = part.number; why = why } ∷ []

abbrev pub expired_of : List Unfinished → List Part → List Lost
expired_of us = flat_map (λ part. lost_if (is_unfinished part.key us) Expired part)

abbrev pub reclaimed_of : Option FragmentKey → List Part → List Lost
reclaimed_of whole = flat_map (λ part. lost_if (is_spared whole part) Reclaimed part)

-- ---- what changes

-- no fragment is kept, and none is lost
pub record AreNone (parts : Parts) : Type 0 where
  pub kept : parts.kept.items ≡ []
  pub lost : parts.lost.items ≡ []

-- the same are kept, lost and gathered
pub record IsSame (old new : Parts) : Type 0 where
  pub kept : new.kept.items ≡ old.kept.items
  pub lost : new.lost.items ≡ old.lost.items
  pub numbers : new.numbers.items ≡ old.numbers.items

-- the records of the other fragments of a packet's datagram were gathered
pub record Gathers (p : List ℕ) (old new : Parts) : Type 0 where
  pub numbers : new.numbers.items ≡ numbers_by (key_of p) old.kept.items
  pub kept : new.kept.items ≡ old.kept.items
  pub lost : new.lost.items ≡ old.lost.items

-- the records of a datagram's fragments were gathered
pub record GathersOf (key : FragmentKey) (old new : Parts) : Type 0 where
  pub numbers : new.numbers.items ≡ numbers_of key old.kept.items
  pub kept : new.kept.items ≡ old.kept.items
  pub lost : new.lost.items ≡ old.lost.items

-- the key of a packet that completed a datagram
abbrev pub whole_key : Fate → List ℕ → Option FragmentKey
whole_key Whole p = key_of p
whole_key Kept p = None
whole_key Other p = None

-- the same, if packets were dropped then
abbrev pub dropped_key : Counters → Counters → List ℕ → Option FragmentKey
dropped_key a b p = if is_some_true (drops_of a b) then whole_key (fate_of a b) p else None

-- the bytes of the datagram that a packet completed
abbrev pub joined_by : Option FragmentKey → List ℕ → List Part → List ℕ
joined_by None p parts = []
joined_by (Some key) p parts = joined_of key p parts

-- A packet arrived: if it completed a datagram that was dropped, the datagram's bytes are reassembled.
pub record Joins (p : List ℕ) (a b : Counters) (old new : Parts) : Type 0 where
  pub bytes : new.whole.bytes ≡ joined_by (dropped_key a b p) p old.kept.items
  pub kept : new.kept.items ≡ old.kept.items
  pub lost : new.lost.items ≡ old.lost.items
  pub numbers : new.numbers.items ≡ old.numbers.items

-- Ticks led to state s: if datagrams were dropped, their fragments are lost, except those that s still holds.
pub record HaveExpired (us : List Unfinished) (old new : Parts) : Type 0 where
  pub kept : new.kept.items ≡ filter (λ (part : Part). is_unfinished part.key us) old.kept.items
  pub lost : new.lost.items ≡ old.lost.items ++ expired_of us old.kept.items
  pub numbers : new.numbers.items ≡ old.numbers.items

abbrev pub Expires : Counters → Counters → State → Parts → Parts → Type 0
Expires a b s old new = Choice (rose IpFragtimeout a b) (HaveExpired s.unfinished old new) (IsSame old new)

-- A packet arrived: if buffers were reclaimed, all fragments are lost except those of the datagram that it completed.
pub record AreReclaimed (whole : Option FragmentKey) (old new : Parts) : Type 0 where
  pub kept : new.kept.items ≡ filter (is_spared whole) old.kept.items
  pub lost : new.lost.items ≡ old.lost.items ++ reclaimed_of whole old.kept.items
  pub numbers : new.numbers.items ≡ old.numbers.items

abbrev pub Reclaims : List ℕ → Counters → Counters → Parts → Parts → Type 0
Reclaims p a b old new =
    Choice (rose IpReclaimed a b) (AreReclaimed (whole_key (fate_of a b) p) old new) (IsSame old new)

-- this part has the fragment in a packet, with the number of its record
pub record HasFragment (number : ℕ) (key : FragmentKey) (p : List ℕ) (part : Part) : Type 0 where
  pub key_is : part.key ≡ key
  pub number_is : part.number ≡ number
  pub offset : part.offset ≡ offset_of p
  pub bytes : part.bytes.items ≡ carried_of p

-- the fragment in a packet is kept after the others
pub record KeepsPart (number : ℕ) (key : FragmentKey) (p : List ℕ) (old new : Parts) : Type 0 where
  pub part : Part
  pub is : HasFragment number key p part
  pub kept : new.kept.items ≡ old.kept.items ++ part ∷ []
  pub lost : new.lost.items ≡ old.lost.items
  pub numbers : new.numbers.items ≡ old.numbers.items

abbrev pub KeepsBy : ℕ → Option FragmentKey → List ℕ → Parts → Parts → Type 0
KeepsBy number None p old new = IsSame old new
KeepsBy number (Some key) p old new = KeepsPart number key p old new

abbrev pub KeepsFragment : ℕ → List ℕ → Parts → Parts → Type 0
KeepsFragment number p old new = KeepsBy number (key_of p) p old new

-- the fragments of a packet's datagram aren't kept any more
pub record ForgetsPart (key : FragmentKey) (old new : Parts) : Type 0 where
  pub kept : new.kept.items ≡ filter (λ (part : Part). not (same_key part.key key)) old.kept.items
  pub lost : new.lost.items ≡ old.lost.items
  pub numbers : new.numbers.items ≡ old.numbers.items

abbrev pub ForgetsBy : Option FragmentKey → Parts → Parts → Type 0
ForgetsBy None old new = IsSame old new
ForgetsBy (Some key) old new = ForgetsPart key old new

abbrev pub Forgets : List ℕ → Parts → Parts → Type 0
Forgets p old new = ForgetsBy (key_of p) old new

-- the effect of what happened to a packet's fragment
abbrev pub Remembers : Fate → ℕ → List ℕ → Parts → Parts → Type 0
Remembers Whole number p old new = Forgets p old new
Remembers Kept number p old new = KeepsFragment number p old new
Remembers Other number p old new = IsSame old new

-- ---- the reports on datagrams that were dropped

abbrev pub same_loss : Loss → Loss → Bool
same_loss Expired Expired = true
same_loss Expired Reclaimed = false
same_loss Reclaimed Expired = false
same_loss Reclaimed Reclaimed = true

-- two fragments were dropped with one datagram
abbrev pub same_lost : Lost → Lost → Bool
same_lost a b = same_key a.key b.key && same_loss a.why b.why

abbrev pub lost_number_if : Lost → Lost → List ℕ
lost_number_if first it = if same_lost first it then it.number ∷ [] else []

abbrev pub lost_numbers_of : Lost → List Lost → List ℕ
lost_numbers_of first = flat_map (lost_number_if first)

-- the first fragment that isn't reported yet, and those that were dropped with it
pub record TakesFirst (first : Lost) (old new : Parts) : Type 0 where
  pub is : slice_get old.lost.items 0 ≡ Some first
  pub numbers : new.numbers.items ≡ lost_numbers_of first old.lost.items
  pub kept : new.kept.items ≡ old.kept.items
  pub lost : new.lost.items ≡ filter (λ (it : Lost). not (same_lost first it)) old.lost.items

-- all of them are reported
pub record TakesNone (old new : Parts) : Type 0 where
  pub none : slice_get old.lost.items 0 ≡ None
  pub same : IsSame old new

abbrev pub TakesLost : Option Lost → Parts → Parts → Type 0
TakesLost None old new = TakesNone old new
TakesLost (Some first) old new = TakesFirst first old new
