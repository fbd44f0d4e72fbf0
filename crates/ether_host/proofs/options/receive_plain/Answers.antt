use Rattle.std.proofs.Common.{◌≡◌, ℕ, ◌<◌, ◌++◌, ◌∷◌, [], List, length, take, ap, subst, ◌∙◌, arith}
use Rattle.std.proofs.lemmas.List.{get_or-set_same, length-append}
use Rattle.flat_model.specs.Machine.Fate.{Fated}
use Rattle.flat_ether.specs.Options.{without_options}
use Rattle.net_stack.specs.Stack.{state_of}
use Rattle.ether_host.specs.declared.buffer.PacketBuffer.{PacketBuffer}
use Rattle.ether_host.proofs.options.receive_plain.Goals as goal

pub returns-clause-fate : goal.returns-clause-fate
returns-clause-fate c =
    let before : List PacketBuffer = c.args.held.now.items in
    let places : List PacketBuffer = c.push_reserved.new.self.items in
    let more : length places ≡ length (before ++ c.blank.result ∷ []) = ap length c.push_reserved.ensures.items in
    let last : c.len-at.result < length places =
    omega (arith, more, length-append before (c.blank.result ∷ []), c.len-at.ensures, c.args.held.now.ok.0) in
    let here : c.index.result.now ≡ c.fill_plain.new.self =
    c.index.ensures ∙ get_or-set_same places c.len-at.result c.fill_plain.new.self c.index.result.now last in
    let is : c.bytes.result.now ≡ without_options c.args.came.now =
    c.bytes.ensures.is ∙ ap (λ (p : PacketBuffer). take p.len p.buffer) here ∙ c.fill_plain.ensures in
    subst (λ (p : List ℕ). Fated (state_of c.args.stack.now) p c.rx_told-fate.result
    (state_of c.rx_told-fate.new.self)) is c.rx_told-fate.ensures.fate
