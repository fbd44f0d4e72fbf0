-- Two hosts of a segment are two stacks on one wire.
use Rattle.std.proofs.Common.{◌≡◌, ◌≢◌, ◌+◌, List, [], ◌∷◌, ◌++◌, ℕ, length, take, get_or, false, refl, sym, ap, ◌∙◌, subst, arith, Some}
use Rattle.std.specs.Prelude.{All, Contains, filter_map, slice_get}
use Rattle.std.proofs.Math.Seq.{take-append_seam}
use Rattle.std.proofs.lemmas.List.{append_assoc, length-append}
use Rattle.std.proofs.lemmas.List.Elements.{All-from_recursion, recursion_from_All}
use Rattle.flat_model.specs.declared.config.Config.{Config}
use Rattle.flat_model.specs.Machine.State.{IsConfig}
use Rattle.flat_model.specs.Runs.Run.{Turn}
use Rattle.flat_wire.specs.Age.{ticks_in}
use Rattle.flat_wire.specs.Ever.{AreNear}
use Rattle.flat_wire.specs.Wire.{ComesFrom, packet_in, packet_out}
use Rattle.net_stack.specs.Runs.{PassedCall, turns_of_calls}
use Rattle.net_stack.specs.Stack.{StackView}
use Rattle.net_stack.specs.Wire.{AreOnOneWire, AreOnOneWireForEver, AreOnOneWireWhole}
use Rattle.segment.specs.Segment.{SegmentView, is_ether, no_hosts}
use Rattle.segment.specs.Law.{Act, AreActs, AreOnSegment, AreOnSegmentWhole, called_of, turns_of}
use Rattle.segment.specs.Delay.{AreOnSegmentForEver}
use Rattle.segment.proofs.Bare.{are_bare}
use Rattle.segment.proofs.BareActs.{AreBare}
use Rattle.segment.proofs.History.{Started, began}
use Rattle.segment.proofs.Hosts.{AreApart, AreFine, acts_fine, none_fine}
use Rattle.segment.proofs.Numbered.{ticks_both}
use Rattle.segment.proofs.Lifetimes.{Holds, Runs, none_holds}
use Rattle.segment.proofs.EachAct.{all_hold}
use Rattle.segment.proofs.Wires.{wires}

module _ (room i j : ℕ) (first second : Config) (s t : StackView) (acts : List Act) (last : SegmentView) where
  -- the start of each, their addresses, and the packets that arrived at the second
  record AreTwo : Type 0 where
    one : Started first (turns_of i acts) s
    two : Started second (turns_of j acts) t
    apart : AreApart first second
    wire : All (λ packet. ComesFrom first.addr packet → Contains (filter_map packet_out (turns_of i acts)) packet)
        (filter_map packet_in (turns_of j acts))

  are_two : AreActs (no_hosts room) acts last → is_ether last ≡ false → i ≢ j → slice_get last.configs i ≡ Some first
      → slice_get last.configs j ≡ Some second → slice_get last.stacks i ≡ Some s → slice_get last.stacks j ≡ Some t
      → All (λ packet. ¬ ComesFrom first.addr packet) (filter_map packet_in (called_of j acts)) → AreTwo
  are_two done no_links other first_is second_is first_stack second_stack outside =
      let start : SegmentView = no_hosts room in
      let bare : AreBare acts = are_bare acts start last done no_links in
      let one : Started first (turns_of i acts) s =
      began i first s acts start last bare refl done first_is first_stack in
      let fine : AreFine last = acts_fine acts start last bare (none_fine room) done in
      record {
        one = one;
        two = began j second t acts start last bare refl done second_is second_stack;
        apart = fine.apart i j first second other first_is second_is;
        wire = All-from_recursion _ _ (wires i j first.addr
            (λ packet. Contains (filter_map packet_out (turns_of i acts)) packet) first refl one.1 last fine first_is
            acts start bare done (none_fine room) tt (λ packet h. h) (recursion_from_All _ _ outside));
      }

  pub on_one_wire : AreOnSegment room i j first second s t acts last
      → AreOnOneWire first second (turns_of i acts) (turns_of j acts) s t
  on_one_wire w =
      let h =
      are_two w.done w.bare w.two w.first_is w.second_is w.first_stack w.second_stack w.outside in
      record {
        first_boots = h.one.1;
        second_boots = h.two.1;
        first_start = h.one.0;
        second_start = h.two.0;
        first_starts = h.one.2;
        second_starts = h.two.2;
        first_calls = h.one.3;
        second_calls = h.two.3;
        not_addr = h.apart.addr;
        not_bcast = h.apart.bcast;
        few = w.few;
        wire = h.wire;
      }

  pub on_one_wire_whole : AreOnSegmentWhole room i j first second s t acts last
      → AreOnOneWireWhole first second (turns_of i acts) (turns_of j acts) s t
  on_one_wire_whole w =
      let h =
      are_two w.done w.bare w.two w.first_is w.second_is w.first_stack w.second_stack w.outside in
      record {
        first_boots = h.one.1;
        second_boots = h.two.1;
        first_start = h.one.0;
        second_start = h.two.0;
        first_starts = h.one.2;
        second_starts = h.two.2;
        first_calls = h.one.3;
        second_calls = h.two.3;
        not_addr = h.apart.addr;
        not_bcast = h.apart.bcast;
        whole = w.whole;
        wire = h.wire;
      }

  -- the calls on the first, and for each turn of the second the number of the send of its packet
  pub record IsEndless : Type 0 where
    pub sent : List PassedCall
    pub turns_are : turns_of_calls sent ≡ turns_of i acts
    pub born : ℕ → ℕ
    pub wired : AreOnOneWireForEver first second sent (turns_of j acts) s t born

  get_here : (before : List Turn) (turn : Turn) (after : List Turn)
      → slice_get (before ++ turn ∷ after) (length before) ≡ Some turn
  get_here [] turn after = refl
  get_here (one ∷ before) turn after = get_here before turn after

  take_all : (n : ℕ) (before : List Turn) (turn : Turn) (after : List Turn) → n ≡ length before
      → take n (before ++ turn ∷ after) ≡ before
  take_all n before turn after e = ap (λ m. take m (before ++ turn ∷ after)) e ∙ take-append_seam before (turn ∷ after)

  pub endless : (delay : ℕ) → AreOnSegmentForEver room i j first second s t acts last delay → IsEndless
  endless delay w = record {
    sent = h.calls;
    turns_are = h.turns_are;
    born = λ k. get_or h.born k 0;
    wired = record {
      first_boots = first_boots;
      second_boots = two.1;
      first_start = one.start;
      second_start = two.0;
      first_starts = one.starts;
      second_starts = two.2;
      first_calls = one.are;
      second_calls = two.3;
      not_addr = (fine.apart i j first second w.two w.first_is w.second_is).addr;
      not_bcast = (fine.apart i j first second w.two w.first_is w.second_is).bcast;
      wire = λ before after turn packet e comes from. (h.came (length before) packet (record {
        turn = turn;
        here = subst (λ ts. slice_get ts (length before) ≡ Some turn) (sym e) (get_here before turn after);
        comes = comes;
        from = from;
      })).made;
      near = near;
    };
  }
    where
      start : SegmentView
      start = no_hosts room

      bare : AreBare acts
      bare = are_bare acts start last w.done w.bare

      fine : AreFine last
      fine = acts_fine acts start last bare (none_fine room) w.done

      first_boots : IsConfig first
      first_boots = fine.booted i first w.first_is

      two : Started second (turns_of j acts) t
      two = began j second t acts start last bare refl w.done w.second_is w.second_stack

      h : Holds i j delay first.addr acts last
      h = all_hold i j delay first.addr acts w.few first refl first_boots last fine w.first_is [] acts start refl bare
          (none_fine room) w.done (recursion_from_All _ acts w.delays) (recursion_from_All _ _ w.outside)
          (none_holds i j delay first.addr room)

      one : Runs i j delay first.addr first h.calls s
      one = h.runs first s w.first_is w.first_stack

      near : AreNear first.addr (turns_of j acts) (λ k. get_or h.born k 0)
      near before between after turn other m =
          let l : ℕ = length before + 1 + length between in
          let again : turns_of j acts ≡ (before ++ turn ∷ between) ++ other ∷ after =
          m.came_are ∙ sym (append_assoc before (turn ∷ between) (other ∷ after)) in
          let length_is : l ≡ length (before ++ turn ∷ between) =
          omega (arith, length-append before (turn ∷ between)) in
          let until : take l (turns_of j acts) ≡ before ++ turn ∷ between =
          ap (take l) again ∙ take_all l (before ++ turn ∷ between) other after length_is in
          h.near (length before) l m.first.packet m.second.packet (omega arith)
          (record {
            turn = turn;
            here =
                subst (λ ts. slice_get ts (length before) ≡ Some turn) (sym m.came_are)
                (get_here before turn (between ++ other ∷ after));
            comes = m.first.comes;
            from = m.first.from;
          })
          (record {
            turn = other;
            here =
                subst (λ n. slice_get (turns_of j acts) n ≡ Some other) (sym length_is)
                (subst (λ ts. slice_get ts (length (before ++ turn ∷ between)) ≡ Some other) (sym again)
                (get_here (before ++ turn ∷ between) other after));
            comes = m.second.comes;
            from = m.second.from;
          })
          (omega (
            arith,
            m.soon,
            ap ticks_in until,
            ap ticks_in first_part,
            ticks_both (before ++ turn ∷ []) between,
            ap ticks_in (append_assoc before (turn ∷ []) between),
          ))
        where
          first_part : take (length before + 1) (turns_of j acts) ≡ before ++ turn ∷ []
          first_part =
              ap (take (length before + 1))
              (m.came_are ∙ sym (append_assoc before (turn ∷ []) (between ++ other ∷ after)))
              ∙ ap (λ n. take n ((before ++ turn ∷ []) ++ (between ++ other ∷ after)))
              (sym (length-append before (turn ∷ [])))
              ∙ take-append_seam (before ++ turn ∷ []) (between ++ other ∷ after)
