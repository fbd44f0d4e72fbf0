-- Changes by hand to frames and the packets in them.
use Rattle.std.proofs.Common.{◌≡◌, ℕ, ◌<◌, ◌≤◌, List, [], ◌∷◌, ◌++◌, length, map, take, get_or, Option, sym, ap, ◌∙◌, cond, arith}
use Rattle.std.specs.Prelude.{◌&&◌, nat_lt, slice_get, swap, option_to_list}
use Rattle.std.proofs.lemmas.Bool.{and_from, lt-ltb}
use Rattle.std.proofs.lemmas.List.{append-nil, length-append, length-map, map-append, take_all, take-append-le}
use Rattle.segment.specs.Flying.{Flying}
use Rattle.segment.specs.Inside.{flying}
use Rattle.segment.specs.Segment.{SegmentView}
use Rattle.segment.specs.declared.frame.Frame.{Frame}
use Rattle.segment.proofs.Frames.{map_get, map_swap}
use Rattle.segment.proofs.Walking.{get_past}

-- a segment with other packets under way
pub changed : (v : SegmentView) (fs gs : List Flying) (room : ℕ) → fs ≡ gs → room ≡ v.room
    → record v { flight = fs; room = room } ≡ record v { flight = gs }
changed v fs gs room e same =
    ap (λ (hs : List Flying). record v { flight = hs; room = room }) e
    ∙ ap (λ n. record v { flight = gs; room = n }) same

pub both_swap : (frames : List Frame) (i j : ℕ) → i < length frames → j < length frames
    → map flying (swap frames i j)
    ≡ cond (nat_lt i (length (map flying frames)) && nat_lt j (length (map flying frames)))
    (swap (map flying frames) i j) (map flying frames)
both_swap frames i j h k =
    let n = length-map frames flying in
    map_swap flying frames i j h k
    ∙ ap (λ b. cond b (swap (map flying frames) i j) (map flying frames))
    (sym (and_from _ _ (lt-ltb i (length (map flying frames)) (omega (arith, n)))
    (lt-ltb j (length (map flying frames)) (omega (arith, n)))))

-- a frame that is a copy of another
pub same_flying : (f g : Frame) → f.sender ≡ g.sender → f.wait ≡ g.wait
    → take f.len f.room.value ≡ take g.len g.room.value → flying f ≡ flying g
same_flying f g sender wait packet =
    ap (λ n. record { sender = n; packet = take f.len f.room.value; wait = f.wait }) sender
    ∙ ap (λ (p : List ℕ). record { sender = g.sender; packet = p; wait = f.wait }) packet
    ∙ ap (λ n. record { sender = g.sender; packet = take g.len g.room.value; wait = n }) wait

pub copied : (frames : List Frame) (i room : ℕ) (frame copy : Frame) → i < length frames
    → frame ≡ get_or frames i frame → flying copy ≡ flying frame → length frames < room
    → map flying (frames ++ copy ∷ [])
    ≡ take room (map flying frames ++ option_to_list (slice_get (map flying frames) i))
copied frames i room frame copy h is same more =
    map-append flying frames (copy ∷ []) ∙ ap (λ (f : Flying). map flying frames ++ f ∷ []) same
    ∙ sym (take_all room (map flying frames ++ flying frame ∷ [])
    (omega (arith, length-append (map flying frames) (flying frame ∷ []), length-map frames flying)))
    ∙ ap (λ (o : Option Flying). take room (map flying frames ++ option_to_list o))
    (sym (map_get flying frames i frame h is))

pub none_copied : (fs : List Flying) (i room : ℕ) → length fs ≤ i → length fs ≤ room
    → fs ≡ take room (fs ++ option_to_list (slice_get fs i))
none_copied fs i room h short =
    sym (take_all room fs short) ∙ ap (take room) (sym (append-nil fs))
    ∙ ap (λ (o : Option Flying). take room (fs ++ option_to_list o)) (sym (get_past fs i h))

pub no_room : (fs : List Flying) (i room : ℕ) → room ≤ length fs → length fs ≤ room
    → fs ≡ take room (fs ++ option_to_list (slice_get fs i))
no_room fs i room full short =
    sym (take_all room fs short) ∙ sym (take-append-le room fs (option_to_list (slice_get fs i)) full)
