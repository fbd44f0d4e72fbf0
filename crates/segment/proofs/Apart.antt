-- Hosts whose addresses differ.
use Rattle.std.proofs.Common.{◌≡◌, ◌≢◌, ℕ, List, [], ◌∷◌, ◌++◌, zero, suc, Bool, true, false, Option, None, Some, refl, ap, ◌∙◌, subst}
use Rattle.std.specs.Prelude.{slice_get, ◌==◌, ◌&&◌, ◌||◌, not, nat_le, length, if◌then◌else◌, option_map}
use Rattle.std.specs.List.{list_all, cons_option}
use Rattle.std.specs.Option.{IfSome}
use Rattle.std.proofs.lemmas.Bool.{and_from, and_parts, ne_eqb}
use Rattle.std.proofs.lemmas.List.Folds.{list_all-append}
use Rattle.std.proofs.lemmas.Option.{none-some, same_Some}
use Rattle.params.specs.declared.TheConstants.{IP_HEADER, LIMITED_BROADCAST}
use Rattle.flat_model.specs.declared.config.Config.{Config}
use Rattle.segment.specs.Flying.{Flying, goes_to, ip_destination, is_destination}
use Rattle.segment.specs.Segment.{all_apart, are_apart, received_in}
use Rattle.segment.specs.Inside.{IsOnly, arriving_at}
use Rattle.segment.proofs.Hosts.{AreApart, all_pass, from_are_apart, turned}

-- one more host joins
pub one_more_apart : (configs : List Config) (c : Config) → list_all (are_apart c) configs ≡ true
    → all_apart configs ≡ true → all_apart (configs ++ c ∷ []) ≡ true
one_more_apart [] c h all = refl
one_more_apart (b ∷ configs) c h all =
    let from = and_parts _ _ h in
    let rest = and_parts _ _ all in
    and_from (list_all (λ (d : Config). are_apart d b) (configs ++ c ∷ [])) (all_apart (configs ++ c ∷ []))
    (list_all-append (λ (d : Config). are_apart d b) configs (c ∷ [])
    ∙ and_from (list_all (λ (d : Config). are_apart d b) configs) (are_apart c b && true) rest.0
    (and_from (are_apart c b) true from.0 refl))
    (one_more_apart configs c from.1 rest.1)

-- any two of them
pub two_apart : (configs : List Config) (i k : ℕ) (c d : Config) → all_apart configs ≡ true → i ≢ k
    → slice_get configs i ≡ Some c → slice_get configs k ≡ Some d → AreApart c d
two_apart [] i k c d all h e f = absurd (none-some _ e)
two_apart (b ∷ configs) zero zero c d all h e f = absurd (h refl)
two_apart (b ∷ configs) zero (suc k) c d all h e f =
    turned d c (from_are_apart d c (subst (λ (x : Config). are_apart d x ≡ true) (same_Some b c e)
    (all_pass (λ (x : Config). are_apart x b) configs k d (and_parts _ _ all).0 f)))
two_apart (b ∷ configs) (suc i) zero c d all h e f =
    from_are_apart c d (subst (λ (x : Config). are_apart c x ≡ true) (same_Some b d f)
    (all_pass (λ (x : Config). are_apart x b) configs i c (and_parts _ _ all).0 e))
two_apart (b ∷ configs) (suc i) (suc k) c d all h e f =
    two_apart configs i k c d (and_parts _ _ all).1 (λ same. h (ap suc same)) e f

and_not : (b : Bool) → (b && false) ≡ false
and_not true = refl
and_not false = refl

-- a packet to the address of another host isn't for this one
not_for : (k : ℕ) (c d : Config) (f : Flying) → AreApart c d → c.addr ≡ ip_destination f.packet
    → ip_destination f.packet ≢ LIMITED_BROADCAST → goes_to k d f ≡ false
not_for k c d f apart is limited =
    let ip = ip_destination f.packet in
    let one : (ip == d.addr) ≡ false = ne_eqb ip d.addr (λ e. apart.addr (is ∙ e)) in
    let two : (ip == d.bcast) ≡ false = ne_eqb ip d.bcast (λ e. apart.bcast (is ∙ e)) in
    let three : (ip == LIMITED_BROADCAST) ≡ false = ne_eqb ip LIMITED_BROADCAST limited in
    let none : is_destination d ip ≡ false =
    ap (λ b. b || (ip == d.bcast) || (ip == LIMITED_BROADCAST)) one
    ∙ ap (λ b. b || (ip == LIMITED_BROADCAST)) two ∙ three in
    ap (λ b. not (f.sender == k) && (nat_le IP_HEADER (length f.packet) && b)) none
    ∙ ap (λ b. not (f.sender == k) && b) (and_not (nat_le IP_HEADER (length f.packet)))
    ∙ and_not (not (f.sender == k))

pub only_one : (configs : List Config) (f : Flying) (place ip : ℕ) (c : Config) → all_apart configs ≡ true
    → slice_get configs place ≡ Some c → c.addr ≡ ip → ip ≡ ip_destination f.packet → ip ≢ LIMITED_BROADCAST
    → IsOnly configs f place
only_one configs f place ip c all here is to limited k other = go (slice_get configs k) refl
  where
    go : (o : Option Config) → slice_get configs k ≡ o → arriving_at k configs f ≡ []
    go None e = ap (λ x. received_in k x (f ∷ [])) e
    go (Some d) e =
        ap (λ x. received_in k x (f ∷ [])) e
        ∙ ap (λ b. cons_option (if b then Some f.packet else None) [])
        (not_for k c d f (two_apart configs place k c d all other here e) (is ∙ to)
        (subst (λ n. n ≢ LIMITED_BROADCAST) to limited))

-- what a search for the address found
pub only_found : (configs : List Config) (f : Flying) (ip : ℕ) (found : Option ℕ) → all_apart configs ≡ true
    → ip ≡ ip_destination f.packet → ip ≢ LIMITED_BROADCAST
    → IfSome found (λ place. option_map (λ (c : Config). c.addr) (slice_get configs place) ≡ Some ip)
    → IfSome found (IsOnly configs f)
only_found configs f ip None all to limited h = tt
only_found configs f ip (Some place) all to limited h = go (slice_get configs place) refl h
  where
    go : (o : Option Config) → slice_get configs place ≡ o → option_map (λ (c : Config). c.addr) o ≡ Some ip
        → IsOnly configs f place
    go None e m = absurd (none-some _ m)
    go (Some c) e m = only_one configs f place ip c all e (same_Some c.addr ip m) to limited
