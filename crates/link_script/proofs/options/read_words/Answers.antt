use Rattle.link_script.proofs.options.read_words.Goals as goal

pub returns-in-Ok-None : goal.returns-in-Ok-None
returns-in-Ok-None c = λ config h. (rw (c.in-Ok-None.is, c.in-Ok-None.field-0-is) at c.named.ensures) config h
