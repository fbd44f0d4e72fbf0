-- From what crate clap found to what the words name.
use Rattle.std.proofs.Common.{◌≡◌, ℕ, List, [], Option, Some, None, option_map, sym, subst, ap, ◌∙◌}
use Rattle.std.specs.Prelude.{MatchOption}
use Rattle.clap.specs.Words.{Row, first_of, subcommand_of, fault_of}
use Rattle.flat_model.specs.declared.config.Config.{Config}
use Rattle.link_script.specs.Options.{whole_app, Names, NamesSizes, NamesTask, IsCommand}
use Rattle.mbuf_pool.specs.declared.sizes.Sizes.{Sizes}
use Rattle.link_script.specs.declared.options.Task.{Task}
use Rattle.link_script.specs.declared.options.Task.TheVariants.{Run, Chain}

Names-same : (d : Config) (f g : List ℕ → Option (List ℕ)) (c : Config) → ((id : List ℕ) → f id ≡ g id) → Names d f c
    → Names d g c
Names-same d f g c same h = record {
  addr = rw (← same _) h.addr;
  bcast = rw (← same _) h.bcast;
  mtu = rw (← same _) h.mtu;
  mbufs = rw (← same _) h.mbufs;
  clusters = rw (← same _) h.clusters;
  first_id = rw (← same _) h.first_id;
}

NamesSizes-same : (d : Config) (f g : List ℕ → Option (List ℕ)) (z : Sizes) → ((id : List ℕ) → f id ≡ g id)
    → NamesSizes d f z → NamesSizes d g z
NamesSizes-same d f g z same h = record {
  mbufs = rw (← same _) h.mbufs;
  clusters = rw (← same _) h.clusters;
}

NamesTask-same : (d : Config) (name : List ℕ) (f g : List ℕ → Option (List ℕ)) (t : Task)
    → ((id : List ℕ) → f id ≡ g id) → NamesTask d name f t → NamesTask d name g t
NamesTask-same d name f g (Run c) same h = (h.0, Names-same d f g c same h.1)
NamesTask-same d name f g (Chain z) same h = (h.0, NamesSizes-same d f g z same h.1)

-- a subcommand's name and its rows
pub both-of : {B X Y : Type 0} (f : B → X) (g : B → Y) (s : Option B) (x : X) (y : Y) → Some x ≡ option_map f s
    → Some y ≡ option_map (λ (p : X × Y). p.1) (option_map {U = X × Y} (λ b. (f b, g b)) s)
    → option_map {U = X × Y} (λ b. (f b, g b)) s ≡ Some (x, y)
both-of f g None x y h k = absurd (cc h)
both-of f g (Some b) x y h k =
    let first : x ≡ f b = cc h in
    let second : y ≡ g b = cc k in
    (λ j. Some (sym first j, sym second j))

pub Gives-names : (d : Config) (words : List (List ℕ)) (name : List ℕ) (f : List ℕ → Option (List ℕ)) (rows : List Row)
    (r : Option Task)
    → fault_of whole_app words ≡ [] → subcommand_of whole_app words ≡ Some (name, rows)
    → ((id : List ℕ) → f id ≡ first_of id rows)
    → MatchOption r ((t : Task) → NamesTask d name f t → ⊥) (NamesTask d name f)
    → MatchOption r ((t : Task) → IsCommand d words t → ⊥) (IsCommand d words)
Gives-names d words name f rows (Some t) taken found same names = record {
  taken = taken;
  name = name;
  rows = rows;
  found = found;
  names = NamesTask-same d name f (λ id. first_of id rows) t same names;
}
Gives-names d words name f rows None taken found same names = λ t h.
    let some_rows : Some h.rows ≡ Some rows = ap (option_map (λ (p : List ℕ × List Row). p.1)) (sym h.found ∙ found) in
    let some_name : Some h.name ≡ Some name = ap (option_map (λ (p : List ℕ × List Row). p.0)) (sym h.found ∙ found) in
    let one : h.rows ≡ rows = cc some_rows in
    let called : h.name ≡ name = cc some_name in
    names t (subst (λ (n : List ℕ). NamesTask d n f t) called
    (NamesTask-same d h.name (λ id. first_of id h.rows) f t (λ id. rw one (sym (same id))) h.names))
