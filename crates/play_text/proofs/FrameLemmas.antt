-- A frame by its header.
use Rattle.std.proofs.Common.{◌≡◌, ℕ, ◌-◌, List, [], ◌∷◌, ◌++◌, length, take, drop, refl, sym, ap, ◌∙◌, append_assoc, length-drop}
use Rattle.flat_model.specs.Packets.Header.{u16_at}
use Rattle.flat_ether.specs.Frames.{body_of, mac_at}
use Rattle.flat_ether.specs.declared.mac.Mac.{Mac}
use Rattle.play_text.specs.Frames.{body_text, frame_way_text, headed_frame_text}

take_whole : (xs : List ℕ) → take (length xs) xs ≡ xs
take_whole [] = refl
take_whole (x ∷ xs) = ap (λ (zs : List ℕ). x ∷ zs) (take_whole xs)

-- the bytes after the header
pub rest_is : (n : ℕ) (xs : List ℕ) → take (length xs - n) (drop n xs) ≡ drop n xs
rest_is n xs = ap (λ (k : ℕ). take k (drop n xs)) (sym (length-drop n xs)) ∙ take_whole (drop n xs)

-- the addresses, and then the rest
pub frame_said : (f body old mid new : List ℕ) (source destination : Mac) (kind : ℕ) → source ≡ mac_at 6 f
    → destination ≡ mac_at 0 f → kind ≡ u16_at 12 f → body ≡ body_of f
    → mid ≡ old ++ frame_way_text source destination → new ≡ mid ++ body_text kind body
    → new ≡ old ++ headed_frame_text f
frame_said f body old mid new source destination kind from to typed behind way said =
    said ∙ ap (λ (t : List ℕ). t ++ body_text kind body) way
    ∙ append_assoc old (frame_way_text source destination) (body_text kind body)
    ∙ ap (λ (m : Mac). old ++ (frame_way_text m destination ++ body_text kind body)) from
    ∙ ap (λ (m : Mac). old ++ (frame_way_text (mac_at 6 f) m ++ body_text kind body)) to
    ∙ ap (λ (k : ℕ). old ++ (frame_way_text (mac_at 6 f) (mac_at 0 f) ++ body_text k body)) typed
    ∙ ap (λ (b : List ℕ). old ++ (frame_way_text (mac_at 6 f) (mac_at 0 f) ++ body_text (u16_at 12 f) b)) behind
