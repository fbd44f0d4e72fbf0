-- A packet that waited is sent; and the packets that the stack gives, one by one.
use Rattle.std.proofs.Common.{◌≡◌, ℕ, ◌<◌, Bool, true, false, cond, List, [], ◌∷◌, length, map, get_or, Option, Some, None, refl, sym, ap, ◌∙◌}
use Rattle.std.specs.Prelude.{is_some, remove, slice_get}
use Rattle.std.proofs.lemmas.Option.{none-some, same_Some}
use Rattle.std.proofs.lemmas.Bool.{false≢true}
use Rattle.flat_model.specs.Amounts.Weight.{Item}
use Rattle.flat_model.specs.Machine.Event.{Reply, Given}
use Rattle.flat_model.specs.Machine.State.{State}
use Rattle.flat_model.specs.Machine.Step.{Transmits}
use Rattle.flat_ether.specs.Frames.{frame}
use Rattle.flat_ether.specs.Hosts.{Drained, Host, drained, or_drains, with_output_left}
use Rattle.flat_ether.specs.Links.{Gives, WaitingPacket, LinkState, first_ready, gives_held, sends, sends_at, sends_held}
use Rattle.flat_ether.specs.declared.mac.Mac.{Mac}
use Rattle.ether_host.specs.Buffers.{held_in}
use Rattle.ether_host.specs.declared.buffer.PacketBuffer.{PacketBuffer}
use Rattle.ether_host.proofs.Tables.{held_at}

pub held_given : (s : LinkState) (ps : List PacketBuffer) (at : ℕ) (mac : Mac) (p : PacketBuffer)
    → s.held ≡ map held_in ps → first_ready s.neighbours s.held ≡ Some (at, mac) → at < length ps → p ≡ get_or ps at p
    → gives_held s ≡ (Some (frame mac s.link.mac 0x0800 (held_in p).packet), record s { held = remove s.held at })
held_given s ps at mac p same found within is =
    ap (λ (o : Option (ℕ × Mac)). sends_at o s) found
    ∙ ap (λ (h : Option WaitingPacket). sends_held at mac h s)
    (ap (λ (hs : List WaitingPacket). slice_get hs at) same ∙ held_at ps at p within is)

-- ---- packets that the stack gives

record Took (s t : State) (p : List ℕ) : Type 0 where
  item : Item
  later : List Item
  output : s.output ≡ item ∷ later
  bytes : item.bytes ≡ p
  left : t ≡ with_output_left s later

abbrev packet_of : Reply → Option (List ℕ)
packet_of (Given p) = p
packet_of _ = None

took : (s t : State) (p : List ℕ) → Transmits s.output s (Given (Some p)) t → Took s t p
took s t p h = go s.output refl h
  where
    go : (items : List Item) → s.output ≡ items → Transmits items s (Given (Some p)) t → Took s t p
    go [] e h = absurd (none-some p (sym (ap packet_of h.0)))
    go (item ∷ later) e h =
        record {
          item = item;
          later = later;
          output = e;
          bytes = same_Some item.bytes p (sym (ap packet_of h.0));
          left = h.1;
        }

or_went : (g : Gives) (later : List Item) (rest : Drained) (f : List ℕ) → Some f ≡ g.0
    → or_drains g later rest ≡ record { frame = Some f; output = later; link = g.1 }
or_went (None, s) later rest f e = absurd (none-some f (sym e))
or_went (Some x, s) later rest f e =
    ap (λ (y : List ℕ). record { frame = Some y; output = later; link = s }) (same_Some x f (sym e))

or_stayed : (g : Gives) (later : List Item) (rest : Drained) → None ≡ g.0 → or_drains g later rest ≡ rest
or_stayed (None, s) later rest e = refl
or_stayed (Some x, s) later rest e = absurd (none-some x e)

module _ (d : Drained) (s t : State) (p : List ℕ) (l l' : LinkState) (so_far : d ≡ drained s.output l)
    (step : Transmits s.output s (Given (Some p)) t) (link : l' ≡ (sends p l).1) where
  one : d ≡ or_drains (sends p l) t.output (drained t.output (sends p l).1)
  one =
      let w = took s t p step in
      so_far ∙ ap (λ items. drained items l) w.output
      ∙ ap (λ (q : List ℕ). or_drains (sends q l) w.later (drained w.later (sends q l).1)) w.bytes
      ∙ ap (λ (items : List Item). or_drains (sends p l) items (drained items (sends p l).1))
      (sym (ap (λ (x : State). x.output) w.left))

  pub went : (f : List ℕ) → Some f ≡ (sends p l).0 → d ≡ record { frame = Some f; output = t.output; link = l' }
  went f e =
      one ∙ or_went (sends p l) t.output _ f e
      ∙ ap (λ (x : LinkState). record { frame = Some f; output = t.output; link = x }) (sym link)

  pub stayed : None ≡ (sends p l).0 → d ≡ drained t.output l'
  stayed e = one ∙ or_stayed (sends p l) t.output _ e ∙ ap (λ (x : LinkState). drained t.output x) (sym link)

pub same_rest : (s t : State) (p : List ℕ) → Transmits s.output s (Given (Some p)) t → (items : List Item)
    → with_output_left s items ≡ with_output_left t items
same_rest s t p step items = let w = took s t p step in ap (λ (x : State). with_output_left x items) (sym w.left)

pub ended : (s t : State) → Transmits s.output s (Given None) t → (t ≡ s) × (s.output ≡ [])
ended s t h = go s.output refl h
  where
    go : (items : List Item) → s.output ≡ items → Transmits items s (Given None) t → (t ≡ s) × (s.output ≡ [])
    go [] e h = (h.1, e)
    go (item ∷ later) e h = absurd (none-some item.bytes (ap packet_of h.0))

-- ---- what is sent if nothing comes before it

abbrev sent_and_left : Option (List ℕ) → State → LinkState → Option (List ℕ) × Host
sent_and_left f m l = (f, record { machine = m; link = l })

none_before : {X : Type 0} (o : Option (List ℕ)) (first last : X) → None ≡ o → last ≡ cond (is_some o) first last
none_before None first last e = refl
none_before (Some f) first last e = absurd (none-some f e)

-- the machine sends nothing, so the link may
pub after_none : (own : LinkState → Gives) (h : Host) (d : Drained) (m : State) (l l' : LinkState)
    (f : Option (List ℕ)) → None ≡ d.frame → l ≡ d.link → m ≡ with_output_left h.machine d.output → f ≡ (own l).0
    → l' ≡ (own l).1 → sent_and_left f m l'
    ≡ cond (is_some d.frame) (sent_and_left d.frame (with_output_left h.machine d.output) d.link)
    (sent_and_left (own d.link).0 (with_output_left h.machine d.output) (own d.link).1)
after_none own h d m l l' f none at left gives link =
    ap (λ (x : Option (List ℕ)). sent_and_left x m l') (gives ∙ ap (λ (x : LinkState). (own x).0) at)
    ∙ ap (λ (x : State). sent_and_left (own d.link).0 x l') left
    ∙ ap (λ (x : LinkState). sent_and_left (own d.link).0 (with_output_left h.machine d.output) x)
    (link ∙ ap (λ (x : LinkState). (own x).1) at)
    ∙ none_before d.frame _ _ none

-- the host has its address, and the link sends nothing
pub claimed_last : {X : Type 0} (b : Bool) (o : Option (List ℕ)) (first last probe : X) → b ≡ true → None ≡ o
    → last ≡ cond b (cond (is_some o) first last) probe
claimed_last true None first last probe e f = refl
claimed_last true (Some x) first last probe e f = absurd (none-some x f)
claimed_last false o first last probe e f = absurd (false≢true e)
