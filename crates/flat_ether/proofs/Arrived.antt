-- The invariant of a host's link still holds after one more frame has arrived.
use Rattle.std.proofs.Common.{◌≡◌, ◌≢◌, ℕ, Bool, true, false, cond, List, [], ◌∷◌, Option, Some, None, refl, sym, ap, ◌∙◌}
use Rattle.std.specs.Prelude.{Contains, ◌==◌, ◌&&◌, ◌||◌, not, is_some}
use Rattle.std.specs.List.{AllByRecursion as Each}
use Rattle.std.proofs.lemmas.List.Elements.{All-contains_itself, All-head, Contains-append_right}
use Rattle.std.proofs.lemmas.Bool.{and_parts, eq-eqb, eqb-false, eqb-true, false≢true, ne_eqb, not-true}
use Rattle.flat_model.specs.declared.config.Config.{Config}
use Rattle.flat_model.proofs.Laws.{each-both, each-weaker}
use Rattle.flat_ether.specs.Claims.{is_claimed}
use Rattle.flat_ether.specs.Frames.{arp_of, body_of, is_arp, is_host_mac, kind_of, same_mac}
use Rattle.flat_ether.specs.Laws.{arp_if, last_given, is_arp_from, given_in}
use Rattle.flat_ether.specs.Links.{LinkState, counts_bad_arp, counts_conflict, neighbour_from, receives_arp, is_conflict, is_rival, is_sound_arp, learns, queues_reply, neighbour_place, put}
use Rattle.flat_ether.specs.Routes.{is_near, is_neighbour}
use Rattle.flat_ether.specs.declared.arp.Arp.{Arp}
use Rattle.flat_ether.specs.declared.link.Link.{Link}
use Rattle.flat_ether.specs.declared.mac.Mac.{Mac}
use Rattle.flat_ether.specs.declared.neighbour.Neighbour.{Neighbour}
use Rattle.flat_ether.proofs.Tables.{AreDistinct, new_ip, put_distinct, put_each}
use Rattle.flat_ether.proofs.Sent.{IsGood, IsKnown, later_made, owes_good}

-- a neighbour is neither this host nor 0
neighbour_other : (c : Config) (l : Link) (ip : ℕ) → is_neighbour c l ip ≡ true → (ip ≢ c.addr) × (ip ≢ 0)
neighbour_other c l ip e =
    let rest = (and_parts (is_near c l ip) _ e).1 in
    let zero_not = (and_parts (not (ip == 0)) _ rest).0 in
    let more = (and_parts (not (ip == 0)) _ rest).1 in
    let own_not = (and_parts (not (ip == c.addr)) _ more).0 in
    (eqb-false ip c.addr (not-true _ own_not), eqb-false ip 0 (not-true _ zero_not))

module _ (c : Config) (l : Link) (F G : List (List ℕ)) (f : List ℕ) where
  abbrev Learned : ℕ → Option Mac
  Learned ip = last_given c l ip (f ∷ F)

  abbrev Good : List (List ℕ) → LinkState → Type 0
  Good frames s = IsGood c l frames G s

  here : Contains (f ∷ F) f
  here = All-head (Contains (f ∷ F)) f F (All-contains_itself (f ∷ F))

  -- the invariant still holds after one more frame, if the neighbours are known by then
  later_good : (s : LinkState) (ns : List Neighbour) → Good F s → Each (IsKnown c l (f ∷ F) G) ns → AreDistinct ns
      → Good (f ∷ F) (record s { neighbours = ns })
  later_good s ns good known distinct = record {
    config = good.config;
    link_is = good.link_is;
    neighbours = known;
    distinct = distinct;
    replies = good.replies;
    held = each-weaker (λ x is. record { made = is.made; route = is.route }) s.held good.held;
    answered = each-weaker (λ p is. record { made = later_made c F G f p is.made; route = is.route }) s.answer
        good.answered;
    quotes =
        each-weaker (λ q is. (is.0, Contains-append_right (f ∷ []) F is.0 is.1, is.2)) s.firsts good.quotes;
  }

  known_later : (n : Neighbour) → ((mac : Mac) → n.mac ≡ Some mac → Learned n.ip ≡ last_given c l n.ip F)
      → IsKnown c l F G n → IsKnown c l (f ∷ F) G n
  known_later n same is = record { learned = λ mac e. same mac e ∙ is.learned mac e; near = is.near }

  all_later : (s : LinkState) → Good F s
      → ((n : Neighbour) → (mac : Mac) → n.mac ≡ Some mac → is_neighbour c l n.ip ≡ true
      → Learned n.ip ≡ last_given c l n.ip F) → Good (f ∷ F) s
  all_later s good same =
      later_good s s.neighbours good
      (each-weaker (λ n is. known_later n (λ mac e. same n mac e (is.near mac e)) is) s.neighbours good.neighbours)
      good.distinct

  -- a frame that is no ARP packet for the host
  pub quiet_good : (s : LinkState) → Good F s → arp_if (kind_of c l.mac f) f ≡ None → Good (f ∷ F) s
  quiet_good s good e =
      all_later s good (λ n mac is near. ap (λ (b : Option (List ℕ)). given_in l n.ip b (last_given c l n.ip F)) e)

  module _ (kind : arp_if (kind_of c l.mac f) f ≡ Some (body_of f)) where
    abbrev a : Arp
    a = arp_of (body_of f)

    learned_here : (ip : ℕ) (b : Bool) → is_arp_from l ip (body_of f) ≡ b → Learned ip ≡ cond b (Some a.mac)
        (last_given c l ip F)
    learned_here ip b e =
        ap (λ (p : Option (List ℕ)). given_in l ip p (last_given c l ip F)) kind
        ∙ ap (λ x. cond x (Some (arp_of (body_of f)).mac) (last_given c l ip F)) e

    unsound_good : (s : LinkState) → Good F s → is_sound_arp l (body_of f) ≡ false → Good (f ∷ F) s
    unsound_good s good e =
        all_later s good (λ n mac is near. learned_here n.ip false (ap (λ x. x && ((arp_of (body_of f)).ip == n.ip)) e))

    other_learned : (ip : ℕ) → ip ≢ a.ip → Learned ip ≡ last_given c l ip F
    other_learned ip other = go (is_sound_arp l (body_of f)) refl
      where
        go : (x : Bool) → is_sound_arp l (body_of f) ≡ x → Learned ip ≡ last_given c l ip F
        go true e =
            learned_here ip false (ap (λ x. x && ((arp_of (body_of f)).ip == ip)) e
            ∙ ne_eqb _ _ (λ same. other (sym same)))
        go false e = learned_here ip false (ap (λ x. x && ((arp_of (body_of f)).ip == ip)) e)

    others_good : (s : LinkState) → Good F s → ((n : Neighbour) → is_neighbour c l n.ip ≡ true → n.ip ≢ a.ip)
        → Good (f ∷ F) s
    others_good s good other = all_later s good (λ n mac is near. other_learned n.ip (other n near))

    learns_good : (s : LinkState) → Good F s → is_sound_arp l (body_of f) ≡ true → Good (f ∷ F) (learns a s)
    learns_good s good sound =
        go (is_neighbour s.config s.link a.ip) (is_some (neighbour_place a.ip s.neighbours)) (a.target == s.config.addr)
        refl
        refl
      where
        near_is : is_neighbour s.config s.link a.ip ≡ is_neighbour c l a.ip
        near_is =
            ap (λ (x : Config). is_neighbour x s.link a.ip) good.config
            ∙ ap (λ (x : Link). is_neighbour c x a.ip) good.link_is

        known : is_neighbour c l a.ip ≡ true → IsKnown c l (f ∷ F) G (neighbour_from a)
        known near = record {
          learned =
              λ mac e. learned_here a.ip true (ap (λ x. x && ((arp_of (body_of f)).ip == a.ip)) sound ∙ eq-eqb _ _ refl)
              ∙ e;
          near = λ mac e. near;
        }

        puts : is_neighbour c l a.ip ≡ true → Good (f ∷ F)
            (record s { neighbours = put (neighbour_from a) s.neighbours })
        puts near =
            later_good s (put (neighbour_from a) s.neighbours) good
            (put_each (IsKnown c l (f ∷ F) G) (neighbour_from a) s.neighbours (known near) good.distinct
            (each-weaker (λ n is other. known_later n (λ mac e. other_learned n.ip other) is) s.neighbours
            good.neighbours))
            (put_distinct (neighbour_from a) s.neighbours good.distinct)

        stays_new : neighbour_place a.ip s.neighbours ≡ None → Good (f ∷ F) s
        stays_new e =
            later_good s s.neighbours good
            (each-both (λ n other is. known_later n (λ mac x. other_learned n.ip other) is) s.neighbours
            (new_ip a.ip s.neighbours e) good.neighbours) good.distinct

        unplaced : (at : Option ℕ) → is_some at ≡ false → at ≡ None
        unplaced None e = refl
        unplaced (Some at) e = absurd (false≢true (sym e))

        go : (near place target : Bool) → is_neighbour s.config s.link a.ip ≡ near
            → is_some (neighbour_place a.ip s.neighbours) ≡ place
            → Good (f ∷ F)
            (cond (near && (place || target)) (record s { neighbours = put (neighbour_from a) s.neighbours }) s)
        go false place target n p =
            others_good s good (λ m near same. false≢true (sym n ∙ near_is ∙ ap (is_neighbour c l) (sym same) ∙ near))
        go true true target n p = puts (sym near_is ∙ n)
        go true false true n p = puts (sym near_is ∙ n)
        go true false false n p = stays_new (unplaced (neighbour_place a.ip s.neighbours) p)

    -- the address in conflict is that of this host, or none
    conflict_others : (s : LinkState) → Good F s → is_conflict s a ≡ true → Good (f ∷ F) s
    conflict_others s good e = go (a.ip == s.config.addr) refl (is_rival s a) refl e
      where
        go : (own : Bool) → (a.ip == s.config.addr) ≡ own → (rival : Bool) → is_rival s a ≡ rival
            → (own || rival) ≡ true → Good (f ∷ F) s
        go true own rival r e =
            let same : a.ip ≡ c.addr = eqb-true _ _ own ∙ ap (λ (x : Config). x.addr) good.config in
            others_good s good (λ n near is. (neighbour_other c l n.ip near).0 (is ∙ same))
        go false own true r e =
            let rest = (and_parts (not (is_claimed s.claim)) _ r).1 in
            let probe = (and_parts (a.op == 1) _ rest).1 in
            let zero_ip : a.ip ≡ 0 = eqb-true _ _ (and_parts (a.ip == 0) _ probe).0 in
            others_good s good (λ n near is. (neighbour_other c l n.ip near).1 (is ∙ zero_ip))
        go false own false r e = absurd (false≢true e)

    pub receives_good : (s : LinkState) → Good F s → Good (f ∷ F) (receives_arp (body_of f) s)
    receives_good s good = go (is_sound_arp s.link (body_of f)) refl
      where
        sound_is : is_sound_arp l (body_of f) ≡ is_sound_arp s.link (body_of f)
        sound_is = ap (λ (x : Link). is_sound_arp x (body_of f)) (sym good.link_is)

        from_host : is_sound_arp l (body_of f) ≡ true → is_host_mac a.mac ≡ true
        from_host sound =
            (and_parts (not (same_mac a.mac l.mac)) _ (and_parts (is_arp (body_of f)) _ sound).1).1

        inner : is_sound_arp l (body_of f) ≡ true → (b : Bool) → is_conflict s (arp_of (body_of f)) ≡ b
            → Good (f ∷ F) (cond b (queues_reply (arp_of (body_of f)) (counts_conflict s))
            (queues_reply (arp_of (body_of f)) (learns (arp_of (body_of f)) s)))
        inner sound true e =
            owes_good c l (f ∷ F) G a (counts_conflict s) (from_host sound) (conflict_others s good e)
        inner sound false e = owes_good c l (f ∷ F) G a (learns a s) (from_host sound) (learns_good s good sound)

        go : (b : Bool) → is_sound_arp s.link (body_of f) ≡ b
            → Good (f ∷ F) (cond b (cond (is_conflict s (arp_of (body_of f)))
            (queues_reply (arp_of (body_of f)) (counts_conflict s))
            (queues_reply (arp_of (body_of f)) (learns (arp_of (body_of f)) s))) (counts_bad_arp s))
        go true e = inner (sound_is ∙ e) (is_conflict s (arp_of (body_of f))) refl
        go false e = unsound_good s good (sound_is ∙ e)
