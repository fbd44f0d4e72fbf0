-- The first fault that applies.
use Rattle.std.proofs.Common.{◌≡◌, Bool, true, false, not, ◌∷◌, [], Option, Some, None, refl, sym, subst}
use Rattle.chain_script.specs.Lines.{Request}
use Rattle.chain_script.specs.Machines.{Machine, has_slots, is_in_range, hits_shared, is_too_long, is_too_short, lacks_buffers}
use Rattle.chain_script.specs.Steps.{ChainReply, Wrong_chain, Wrong_range, Shared, Too_long, Too_short, No_buffers, first_true, request_fault, DoesRequest, DoesUnless, ChainStep}

-- the fault of a request by its six tests, in their order
abbrev pub first_of : Bool → Bool → Bool → Bool → Bool → Bool → Option ChainReply
first_of slots range shared long short lacks = first_true (
    (not slots, Wrong_chain)
    ∷ (not range, Wrong_range)
    ∷ (shared, Shared)
    ∷ (long, Too_long)
    ∷ (short, Too_short)
    ∷ (lacks, No_buffers)
    ∷ [])

refused : (b : Machine) (r : Request) (fault : ChainReply) → request_fault b r ≡ Some fault → ChainStep b r fault b
refused b r fault e = subst (λ (o : Option ChainReply). DoesUnless o b r fault b) (sym e) (refl, refl)

pub wrong_chain : (b : Machine) (r : Request) → has_slots b r ≡ false → ChainStep b r Wrong_chain b
wrong_chain b r s =
    refused b r Wrong_chain (λ j. first_of (s j) (is_in_range b r) (hits_shared b r) (is_too_long r) (is_too_short b r)
    (lacks_buffers b r))

pub shared : (b : Machine) (r : Request) → has_slots b r ≡ true → is_in_range b r ≡ true → hits_shared b r ≡ true
    → ChainStep b r Shared b
shared b r s g h =
    refused b r Shared (λ j. first_of (s j) (g j) (h j) (is_too_long r) (is_too_short b r) (lacks_buffers b r))

pub no_buffers : (b : Machine) (r : Request) → has_slots b r ≡ true → is_in_range b r ≡ true → hits_shared b r ≡ false
    → is_too_long r ≡ false → is_too_short b r ≡ false
    → lacks_buffers b r ≡ true → ChainStep b r No_buffers b
no_buffers b r s g h l t k = refused b r No_buffers (λ j. first_of (s j) (g j) (h j) (l j) (t j) (k j))

pub done : (b : Machine) (r : Request) (reply : ChainReply) (new : Machine) → has_slots b r ≡ true
    → is_in_range b r ≡ true
    → hits_shared b r ≡ false → is_too_long r ≡ false
    → is_too_short b r ≡ false → lacks_buffers b r ≡ false → DoesRequest b r reply new → ChainStep b r reply new
done b r reply new s g h l t k does =
    let none : request_fault b r ≡ None = (λ j. first_of (s j) (g j) (h j) (l j) (t j) (k j)) in
    subst (λ (o : Option ChainReply). DoesUnless o b r reply new) (sym none) does
