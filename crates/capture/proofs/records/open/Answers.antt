use Rattle.std.proofs.Common.{Ok, ap, inl, inr, refl, sym, ◌∙◌}
use Rattle.capture.specs.File.{header_of}
use Rattle.capture.proofs.Filling.{fills_all}
use Rattle.capture.proofs.Opening.{good_header, not_opened, not_opened_then}
use Rattle.capture.specs.Places.{kind_in}
use Rattle.capture.proofs.records.open.Goals as goal

pub returns-in-Err : goal.returns-in-Err
returns-in-Err g c =
    not_opened _ _ c.args.feed.now.buffer c.fill.new.self.buffer c.in-Err.error c.requires c.fill.ensures.read
    c.in-Err.ensures.refused

pub returns-in-Gzip : goal.returns-in-Gzip
returns-in-Gzip g c =
    let kind = ap kind_in (sym c.as_slice.ensures) ∙ sym c.kind_of.ensures ∙ c.in-Gzip.is in
    (fills_all _ _ c.args.feed.now.buffer c.fill.new.self.buffer c.requires c.fill.ensures.read, inr (inl (kind, refl)))

pub returns-in-Pcapng : goal.returns-in-Pcapng
returns-in-Pcapng g c =
    let kind = ap kind_in (sym c.as_slice.ensures) ∙ sym c.kind_of.ensures ∙ c.in-Pcapng.is in
    let read = fills_all _ _ c.args.feed.now.buffer c.fill.new.self.buffer c.requires c.fill.ensures.read in
    (read, c.in_default.ensures.most, kind)

pub returns-in-Err-fill : goal.returns-in-Err-fill
returns-in-Err-fill g c =
    not_opened_then _ _ _ c.args.feed.now.buffer c.fill.new.self.buffer c.fill-in-Classic.new.self.buffer
    c.in-Err-fill.error
    c.requires c.fill.ensures.read c.fill-in-Classic.ensures.read c.in-Err-fill.ensures.refused

pub returns-in-Ok : goal.returns-in-Ok
returns-in-Ok g c =
    let same = sym c.as_slice-in-Classic.ensures in
    let is = ap header_of same ∙ c.in-Ok.ensures.header ∙ ap Ok (sym c.header.ensures) in
    good_header _ _ _ c.args.feed.now.buffer c.fill.new.self.buffer c.fill-in-Classic.new.self.buffer c.header.result
    c.requires c.fill.ensures.read c.fill-in-Classic.ensures.read is c.in_default-fill.ensures.most
