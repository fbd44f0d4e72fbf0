-- Each step of the machine is a step of its strings.
use Rattle.std.proofs.Common.{◌≡◌, ℕ, ◌+◌, ◌==◌, Bool, true, false, not, List, [], ◌∷◌, ◌++◌, length, take, drop, map, set, get_or, replicate, Option, Some, None, zero, suc, unwrap_or, refl, sym, ap, ◌∙◌, subst, inl, inr}
use Rattle.std.specs.Prelude.{◌&&◌, nat_lt, nat_le, is_some}
use Rattle.std.proofs.lemmas.Bool.{false≢true}
use Rattle.std.proofs.Math.ListN.{get_or-map}
use Rattle.std.proofs.lemmas.List.{map-set, set-get_or}
use Rattle.params.specs.declared.TheConstants.{MHLEN}
use Rattle.mbuf_chain.specs.Chain.{Entry, flat_bytes}
use Rattle.chain_ops.specs.declared.copym.Extent.{Extent}
use Rattle.chain_ops.specs.declared.copym.Extent.TheVariants.{All, Part}
use Rattle.chain_ops.specs.Extents.{extent_bytes, extent_copied}
use Rattle.chain_ops.specs.Rooms.{room_low}
use Rattle.chain_ops.specs.Splits.{split_front}
use Rattle.chain_ops.specs.Copies.{copy_header}
use Rattle.chain_ops.proofs.Laws.Strings.{copied_bytes, copied_all_bytes, adjusted_are, cat_bytes, pulled_up_bytes, prepended_bytes, split_front_bytes, split_back_bytes}
use Rattle.chain_ops.proofs.Laws.Stored.{user_bytes, wire_bytes, copied_back_bytes}
use Rattle.script_loop.specs.Printed.{Prints}
use Rattle.chain_script.specs.Lines.{Request, User, Wire, Copy, Prepend, Pull_up, Adjust, Split, Join, Write_over, Read_out, Show, Free, Ask_usage}
use Rattle.chain_script.specs.Machines.{Machine, Slot, booted, slot_at, is_held, entries_in, entries_at, header_at, view_at, length_at, with_slot, emptied, times_referred, slots_usage, has_slots, is_in_range, is_range, hits_shared, is_too_long, is_too_short, lacks_buffers}
use Rattle.chain_script.specs.Steps.{ChainReply, Wrong_chain, Wrong_range, Too_long, Too_short, first_true, DoesRequest, DoesUnless, ChainStep, Says, shapes_of}
use Rattle.chain_script.specs.Strings.{string_in, strings_of, string_at, bytes_at, has_string, has_strings, is_in_strings, is_string_short, string_fault, strings_after, RepliesDone, RepliesUnless, StringStep, StringSays}
use Rattle.chain_script.proofs.Faults.{first_of}

-- ---- one slot
at_string : (b : Machine) (i : ℕ) → string_at (strings_of b) i ≡ string_in (slot_at b i)
at_string b i = get_or-map string_in b.slots i None

same_some : (o : Option Slot) → is_some (string_in o) ≡ is_some o
same_some None = refl
same_some (Some s) = refl

same_bytes : (o : Option Slot) → unwrap_or (string_in o) [] ≡ flat_bytes (entries_in o)
same_bytes None = refl
same_bytes (Some s) = refl

held : (b : Machine) (i : ℕ) → has_string (strings_of b) i ≡ is_held b i
held b i = ap is_some (at_string b i) ∙ same_some (slot_at b i)

bytes : (b : Machine) (i : ℕ) → bytes_at (strings_of b) i ≡ flat_bytes (entries_at b i)
bytes b i = ap (λ (o : Option (List ℕ)). unwrap_or o []) (at_string b i) ∙ same_bytes (slot_at b i)

long : (b : Machine) (i : ℕ) → length (bytes_at (strings_of b) i) ≡ length_at b i
long b i = ap (λ (xs : List ℕ). length xs) (bytes b i)

strings-put : (b : Machine) (i : ℕ) (header : Bool) (es : List Entry) (xs : List ℕ) → flat_bytes es ≡ xs
    → strings_of (with_slot b i header es) ≡ set (strings_of b) i (Some xs)
strings-put b i header es xs e =
    map-set string_in b.slots i (Some (record { header = header; entries = es }))
    ∙ ap (λ (ys : List ℕ). set (strings_of b) i (Some ys)) e

strings-emptied : (b : Machine) (i : ℕ) → strings_of (emptied b i) ≡ set (strings_of b) i None
strings-emptied b i = map-set string_in b.slots i None

-- ---- the tests
same_slots : (b : Machine) (r : Request) → has_strings (strings_of b) r ≡ has_slots b r
same_slots b (User slot bytes) = ap not (held b slot)
same_slots b (Wire slot bytes) = ap not (held b slot)
same_slots b (Copy to slot extent) = (λ j. held b slot j && not (held b to j))
same_slots b (Prepend slot bytes) = held b slot
same_slots b (Pull_up slot n) = held b slot
same_slots b (Adjust slot n) = held b slot
same_slots b (Split to slot at) = (λ j. held b slot j && not (held b to j))
same_slots b (Join slot other) = (λ j. held b slot j && (held b other j && not (slot == other)))
same_slots b (Write_over slot off bytes) = held b slot
same_slots b (Read_out slot off len) = held b slot
same_slots b (Show slot) = held b slot
same_slots b (Free slot) = held b slot
same_slots b Ask_usage = refl

same_range : (b : Machine) (r : Request) → is_in_strings (strings_of b) r ≡ is_in_range b r
same_range b (User slot bytes) = refl
same_range b (Wire slot bytes) = refl
same_range b (Copy to slot extent) = ap (is_range extent) (long b slot)
same_range b (Prepend slot xs) =
    ap (λ (n : ℕ). nat_lt 0 (length xs) && (nat_le (length xs) MHLEN && nat_le (length xs + n) 65535)) (long b slot)
same_range b (Pull_up slot n) = refl
same_range b (Adjust slot n) = refl
same_range b (Split to slot at) = ap (nat_lt at) (long b slot)
same_range b (Join slot other) = (λ j. nat_le (long b slot j + long b other j) 65535)
same_range b (Write_over slot off bytes) = refl
same_range b (Read_out slot off len) = ap (nat_le (off + len)) (long b slot)
same_range b (Show slot) = refl
same_range b (Free slot) = refl
same_range b Ask_usage = refl

same_short : (b : Machine) (r : Request) → is_string_short (strings_of b) r ≡ is_too_short b r
same_short b (Pull_up slot n) = ap (λ (m : ℕ). nat_lt m n) (long b slot)
same_short b (User slot bytes) = refl
same_short b (Wire slot bytes) = refl
same_short b (Copy to slot extent) = refl
same_short b (Prepend slot bytes) = refl
same_short b (Adjust slot n) = refl
same_short b (Split to slot at) = refl
same_short b (Join slot other) = refl
same_short b (Write_over slot off bytes) = refl
same_short b (Read_out slot off len) = refl
same_short b (Show slot) = refl
same_short b (Free slot) = refl
same_short b Ask_usage = refl

-- a request that would write to a shared cluster is neither too long nor too short
apart : (b : Machine) (r : Request) → hits_shared b r ≡ true → (is_too_long r ≡ false) × (is_too_short b r ≡ false)
apart b (Write_over slot off bytes) h = (refl, refl)
apart b (User slot bytes) h = absurd (false≢true h)
apart b (Wire slot bytes) h = absurd (false≢true h)
apart b (Copy to slot extent) h = absurd (false≢true h)
apart b (Prepend slot bytes) h = absurd (false≢true h)
apart b (Pull_up slot n) h = absurd (false≢true h)
apart b (Adjust slot n) h = absurd (false≢true h)
apart b (Split to slot at) h = absurd (false≢true h)
apart b (Join slot other) h = absurd (false≢true h)
apart b (Read_out slot off len) h = absurd (false≢true h)
apart b (Show slot) h = absurd (false≢true h)
apart b (Free slot) h = absurd (false≢true h)
apart b Ask_usage h = absurd (false≢true h)

-- ---- the effects of requests
extent_are : (extent : Extent) (header : Bool) (es : List Entry)
    → flat_bytes (extent_copied extent header es) ≡ extent_bytes extent (flat_bytes es)
extent_are All header es = copied_all_bytes (room_low header) es
extent_are (Part off len) header es = copied_bytes (copy_header header off) es off len

-- an option with a string is equal to that string as an option
some_is : (o : Option (List ℕ)) → is_some o ≡ true → Some (unwrap_or o []) ≡ o
some_is None h = absurd (false≢true h)
some_is (Some xs) h = refl

kept : (ss : List (Option (List ℕ))) (i : ℕ) → has_string ss i ≡ true → set ss i (Some (bytes_at ss i)) ≡ ss
kept ss i h = ap (set ss i) (some_is (get_or ss i None) h) ∙ set-get_or ss i None

reported : (b new : Machine) (r : Request) (reply : ChainReply) → has_slots b r ≡ true → DoesRequest b r reply new
    → RepliesDone (strings_of b) r reply × (strings_of new ≡ strings_after (strings_of b) r)
reported b new (User slot xs) reply s h =
    (h.0, ap strings_of h.4 ∙ strings-put b slot true _ xs (user_bytes h.1 xs h.3))
reported b new (Wire slot xs) reply s h =
    (h.0, ap strings_of h.4 ∙ strings-put b slot true _ xs (wire_bytes h.1 xs h.3))
reported b new (Copy to slot extent) reply s h = (
  h.0,
  ap strings_of h.1 ∙ strings-put b to _ _ _
      (extent_are extent (header_at b slot) (entries_at b slot) ∙ ap (extent_bytes extent) (sym (bytes b slot))),
)
reported b new (Prepend slot xs) reply s h = (
  h.0,
  ap strings_of h.1 ∙ strings-put b slot _ _ _
      (prepended_bytes (view_at b slot) xs ∙ ap (λ (ys : List ℕ). xs ++ ys) (sym (bytes b slot))),
)
reported b new (Pull_up slot n) reply s h = (
  h.0,
  ap strings_of h.1 ∙ strings-put b slot _ _ _ (pulled_up_bytes (view_at b slot) n ∙ sym (bytes b slot))
      ∙ kept (strings_of b) slot (held b slot ∙ s),
)
reported b new (Adjust slot n) reply s h = (
  h.0,
  ap strings_of h.1 ∙ strings-put b slot _ _ _
      (adjusted_are n (entries_at b slot) ∙ ap (Rattle.chain_ops.specs.Trims.adjusted_bytes n) (sym (bytes b slot))),
)
reported b new (Split to slot at) reply s h = (
  h.0,
  ap strings_of h.1
      ∙ strings-put (with_slot b slot (header_at b slot) (split_front (entries_at b slot) at)) to _ _ _
      (split_back_bytes (header_at b slot) (entries_at b slot) at ∙ ap (drop at) (sym (bytes b slot)))
      ∙ ap (λ (ss : List (Option (List ℕ))). set ss to (Some (drop at (bytes_at (strings_of b) slot))))
      (strings-put b slot (header_at b slot) _ _
      (split_front_bytes (entries_at b slot) at ∙ ap (take at) (sym (bytes b slot)))),
)
reported b new (Join slot other) reply s h = (
  h.0,
  ap strings_of h.1
      ∙ strings-put (emptied b other) slot _ _ _
      (cat_bytes (entries_at b slot) (entries_at b other) ∙ (λ j. sym (bytes b slot) j ++ sym (bytes b other) j))
      ∙ ap (λ (ss : List (Option (List ℕ))). set ss slot
      (Some (bytes_at (strings_of b) slot ++ bytes_at (strings_of b) other))) (strings-emptied b other),
)
reported b new (Write_over slot off xs) reply s h = (
  h.0,
  ap strings_of h.1 ∙ strings-put b slot _ _ _
      (copied_back_bytes (entries_at b slot) off xs
      ∙ ap (λ (ys : List ℕ). Rattle.chain_ops.specs.Writes.written_bytes ys off xs) (sym (bytes b slot))),
)
reported b new (Read_out slot off len) reply s h = (
  h.0 ∙ ap (λ (ys : List ℕ). Rattle.chain_script.specs.Steps.Held (take len (drop off ys))) (sym (bytes b slot)),
  ap strings_of h.1,
)
reported b new (Show slot) reply s h = (
  (
    shapes_of (times_referred b) (entries_at b slot),
    h.0
        ∙ ap (λ (n : ℕ). Rattle.chain_script.specs.Steps.Layout_shown n
        (shapes_of (times_referred b) (entries_at b slot)))
        (sym (long b slot)),
  ),
  ap strings_of h.1,
)
reported b new (Free slot) reply s h = (h.0, ap strings_of h.1 ∙ strings-emptied b slot)
reported b new Ask_usage reply s h = ((slots_usage b, h.0), ap strings_of h.1)

-- ---- the tests in their order: those of the strings; `first_of` has those of the machine
abbrev by_strings : Bool → Bool → Bool → Bool → Option ChainReply
by_strings slots range long short =
    first_true ((not slots, Wrong_chain) ∷ (not range, Wrong_range) ∷ (long, Too_long) ∷ (short, Too_short) ∷ [])

step_by : (b new : Machine) (r : Request) (reply : ChainReply) (s g h l t k : Bool)
    → (h ≡ true → (l ≡ false) × (t ≡ false))
    → (s ≡ true → DoesRequest b r reply new
    → RepliesDone (strings_of b) r reply × (strings_of new ≡ strings_after (strings_of b) r))
    → DoesUnless (first_of s g h l t k) b r reply new
    → RepliesUnless (by_strings s g l t) (strings_of b) r reply (strings_of new)
step_by b new r reply false g h l t k e d u = (u.0, ap strings_of u.1)
step_by b new r reply true false h l t k e d u = (u.0, ap strings_of u.1)
step_by b new r reply true true true true t k e d u = absurd (false≢true (sym (e refl).0))
step_by b new r reply true true true false true k e d u = absurd (false≢true (sym (e refl).1))
step_by b new r reply true true true false false k e d u = inl (inr u.0, ap strings_of u.1)
step_by b new r reply true true false true t k e d u = (u.0, ap strings_of u.1)
step_by b new r reply true true false false true k e d u = (u.0, ap strings_of u.1)
step_by b new r reply true true false false false true e d u = inl (inl u.0, ap strings_of u.1)
step_by b new r reply true true false false false false e d u = inr (d refl u)

pub string_step : (b new : Machine) (r : Request) (reply : ChainReply) → ChainStep b r reply new
    → StringStep (strings_of b) r reply (strings_of new)
string_step b new r reply h =
    let same : string_fault (strings_of b) r
    ≡ by_strings (has_slots b r) (is_in_range b r) (is_too_long r) (is_too_short b r) =
    (λ j. by_strings (same_slots b r j) (same_range b r j) (is_too_long r) (same_short b r j)) in
    subst (λ (o : Option ChainReply). RepliesUnless o (strings_of b) r reply (strings_of new)) (sym same)
    (step_by b new r reply (has_slots b r) (is_in_range b r) (hits_shared b r) (is_too_long r) (is_too_short b r)
    (lacks_buffers b r) (apart b r) (reported b new r reply) h)

-- ---- lines
string_says : (old new : Machine) (line text : List ℕ) → Says old line text new
    → StringSays (strings_of old) line text (strings_of new)
string_says old new line text (Some reply, a, e) = (Some reply, (a.0, a.1, string_step old new a.0 reply a.2), e)
string_says old new line text (None, a, e) = (None, (a.0, ap strings_of a.1), e)

pub string_prints : (old new : Machine) (lines : List (List ℕ)) (printed : List ℕ) → Prints Says old lines printed new
    → Prints StringSays (strings_of old) lines printed (strings_of new)
string_prints old new [] printed h = (ap strings_of h.0, h.1)
string_prints old new (line ∷ lines) printed h =
    (strings_of h.0, h.1, h.2, string_says old h.0 line h.1 h.3, string_prints h.0 new lines h.2 h.4, h.5)

none_reported : (n : ℕ) → map string_in (replicate n None) ≡ replicate n None
none_reported zero = refl
none_reported (suc n) = ap (λ (ss : List (Option (List ℕ))). None ∷ ss) (none_reported n)

pub boot_strings : (mbufs clusters : ℕ) → strings_of (booted mbufs clusters) ≡ replicate 64 None
boot_strings mbufs clusters = none_reported 64
