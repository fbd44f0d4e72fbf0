-- If no host is on an Ethernet at the end, none ever was.
use Rattle.std.proofs.Common.{◌≡◌, ◌≢◌, ◌⊎◌, inl, inr, ℕ, true, false, List, [], ◌∷◌, length, suc, refl, sym, ap, ◌∙◌, arith}
use Rattle.std.specs.Prelude.{◌==◌, not, slice_set}
use Rattle.std.proofs.Math.ListN.{length-set}
use Rattle.std.proofs.lemmas.Bool.Decides.{eqb_tells}
use Rattle.flat_ether.specs.Links.{LinkState, link_up}
use Rattle.segment.specs.Frames.{IsHostStep}
use Rattle.segment.specs.Law.{Act, Ether, EtherAct, JoinsEther, CollectsFrames, DeliversFrames, ReceivesFrame, QueriesError, TicksHost, Joins, Calls, Collects, Delivers, Impairs, Seeds, Loses, Repeats, Swaps, IsAct, IsEtherAct, AreActs}
use Rattle.segment.specs.Segment.{SegmentView, is_ether}
use Rattle.segment.proofs.BareActs.{AreBare, IsBare}
use Rattle.segment.proofs.History.{get_within, length-last}

-- a segment with the same number of links as one on an Ethernet
not_none : (old : SegmentView) (links : List LinkState) → is_ether old ≡ true → length links ≡ length old.links
    → links ≡ [] → ⊥
not_none old links is same none = go old.links is (sym same ∙ ap length none)
  where
    never : false ≡ true → ⊥
    never e = cc

    go : (ls : List LinkState) → is_ether (record old { links = ls }) ≡ true → length ls ≡ 0 → ⊥
    go [] e f = never e
    go (l ∷ ls) e f = absurd (omega (arith, f))

no_step : (place : ℕ) (R : _) (old new : SegmentView) → IsHostStep place R old new → new.links ≡ [] → ⊥
no_step place R old new step none =
    let some = get_within old.links place step.link step.link_is in
    let len = length-set old.links place step.link' in
    let same : length (slice_set old.links place step.link') ≡ 0 =
    ap (λ (v : SegmentView). length v.links) (sym step.is) ∙ ap length none in
    absurd (omega (arith, some, len, same))

no_ether : (act : EtherAct) (old new : SegmentView) → IsEtherAct old act new → new.links ≡ [] → ⊥
no_ether (JoinsEther config link) old new is none =
    absurd (omega (arith, length-last old.links (link_up config link), ap length (sym is.links ∙ none)))
no_ether CollectsFrames old new is none = not_none old new.links is.0 is.1.links none
no_ether DeliversFrames old new is none = not_none old new.links is.0 is.1.links none
no_ether (ReceivesFrame place frame) old new is none = no_step place _ old new is none
no_ether (QueriesError place fd fault) old new is none = no_step place _ old new is none
no_ether (TicksHost place) old new is none = no_step place _ old new is none

before : (act : Act) (old new : SegmentView) → IsAct old act new → new.links ≡ [] → (old.links ≡ []) × IsBare act
before (Ether act) old new is none = absurd (no_ether act old new is none)
before (Joins config) old new is none = (sym is.links ∙ none, tt)
before (Calls place turn) old new is none = (sym is.links ∙ none, tt)
before (Collects found) old new is none = (sym is.1.links ∙ none, tt)
before (Delivers found) old new is none = (sym is.1.links ∙ none, tt)
before (Impairs place chances) old new is none = (ap (λ (v : SegmentView). v.links) (sym is) ∙ none, tt)
before (Seeds seed) old new is none = (ap (λ (v : SegmentView). v.links) (sym is) ∙ none, tt)
before (Loses at) old new is none = (ap (λ (v : SegmentView). v.links) (sym is) ∙ none, tt)
before (Repeats at) old new is none = (ap (λ (v : SegmentView). v.links) (sym is) ∙ none, tt)
before (Swaps at other) old new is none = (ap (λ (v : SegmentView). v.links) (sym is) ∙ none, tt)

both : (acts : List Act) (v last : SegmentView) → AreActs v acts last → last.links ≡ [] → (v.links ≡ []) × AreBare acts
both [] v last done none = (ap (λ (w : SegmentView). w.links) (sym done) ∙ none, tt)
both (act ∷ acts) v last (mid, is, done) none =
    let later = both acts mid last done none in
    let here = before act v mid is later.0 in
    (here.0, (here.1, later.1))

no_links : (v : SegmentView) (links : List LinkState) → is_ether (record v { links = links }) ≡ false → links ≡ []
no_links v [] e = refl
no_links v (l ∷ ls) e = absurd (go (eqb_tells (suc (length ls)) 0))
  where
    never : true ≡ false → ⊥
    never f = cc

    go : (((suc (length ls) == 0) ≡ true) × (suc (length ls) ≡ 0))
        ⊎ (((suc (length ls) == 0) ≡ false) × (suc (length ls) ≢ 0)) → ⊥
    go (inl h) = absurd (omega (arith, h.1))
    go (inr h) = never (sym (ap not h.0) ∙ e)

pub are_bare : (acts : List Act) (v last : SegmentView) → AreActs v acts last → is_ether last ≡ false → AreBare acts
are_bare acts v last done bare = (both acts v last done (no_links last last.links bare)).1
