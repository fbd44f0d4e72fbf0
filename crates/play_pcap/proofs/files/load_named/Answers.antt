use Rattle.std.proofs.Common.{take, inl, inr, refl}
use Rattle.play_pcap.specs.Files.{IsAvailable, IsUnread}
use Rattle.play_pcap.proofs.Naming.{available_by}
use Rattle.play_pcap.proofs.files.load_named.Goals as goal

pub returns-in-Some : goal.returns-in-Some
returns-in-Some g c =
    available_by c.load.result (λ v. g.F.Folder.may_have (take c.in-Some.len c.bytes.new.buffer) v.items)
    (λ v. IsAvailable g.F.Folder.may_have c.args.word.now v.items) IsUnread
    (λ v h. (take c.in-Some.len c.bytes.new.buffer, inl c.in-Some.ensures.bytes, h)) c.load.ensures

pub returns-in-None : goal.returns-in-None
returns-in-None g c =
    available_by c.load-in-None.result (λ v. g.F.Folder.may_have c.args.word.now v.items)
    (λ v. IsAvailable g.F.Folder.may_have c.args.word.now v.items) IsUnread
    (λ v h. (c.args.word.now, inr (c.in-None.ensures.bytes, refl), h)) c.load-in-None.ensures
