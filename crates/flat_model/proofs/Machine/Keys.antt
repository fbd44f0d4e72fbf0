-- A fragment is matched by its whole key.
use Rattle.std.proofs.Common.{◌≡◌, true, ap, eq-eqb}
use Rattle.std.specs.Prelude.{◌↔◌, ◌==◌}
use Rattle.std.proofs.lemmas.Bool.{eqb-true, and_parts, and_from}
use Rattle.flat_model.specs.Machine.State.{Key, Unfinished, is_key}

pub whole_key : (k : Key) (u : Unfinished) → (is_key k u ≡ true) ↔ (u.key ≡ k)
whole_key k u = (same, found)
  where
    same : is_key k u ≡ true → u.key ≡ k
    same e =
        let three = and_parts _ _ e in
        let two = and_parts _ _ three.0 in
        let one = and_parts _ _ two.0 in
        let source : u.key.source ≡ k.source = eqb-true _ _ one.0 in
        let destination : u.key.destination ≡ k.destination = eqb-true _ _ one.1 in
        let id : u.key.id ≡ k.id = eqb-true _ _ two.1 in
        let protocol : u.key.protocol ≡ k.protocol = eqb-true _ _ three.1 in
        λ i. record { source = source i; destination = destination i; id = id i; protocol = protocol i }

    found : u.key ≡ k → is_key k u ≡ true
    found e =
        and_from _ _
        (and_from _ _
        (and_from (u.key.source == k.source) (u.key.destination == k.destination)
        (eq-eqb _ _ (ap (λ (x : Key). x.source) e)) (eq-eqb _ _ (ap (λ (x : Key). x.destination) e)))
        (eq-eqb _ _ (ap (λ (x : Key). x.id) e)))
        (eq-eqb _ _ (ap (λ (x : Key). x.protocol) e))
