-- For which causes packets were dropped, how often, and in which record first (this project's own). `a` and `b` are
-- what was counted before and after a record's packet.
use Rattle.std.specs.Prelude.{ℕ, ◌==◌, List, [], ◌++◌, codes, decimal, flat_map, if◌then◌else◌, map}
use Rattle.flat_model.specs.Machine.Count.{counter_of, more_by}
use Rattle.flat_model.specs.declared.counters.Counters.{Counters}
use Rattle.flat_model.specs.declared.counters.Why.{Why}
use Rattle.play_text.specs.Words.{all_causes, cause_words, rose}
use Rattle.play_text.specs.declared.count.Count.{Count}
use Rattle.play_text.specs.declared.table.Row.{Row}
use Rattle.play_text.specs.declared.table.Table.{Table}

-- ---- one count

abbrev pub never : Count
never = record { count = 0; first = 0 }

-- one more, in the record of this number
abbrev pub once_more : ℕ → Count → Count
once_more number c =
    record { count = more_by 1 c.count; first = if c.count == 0 then number else c.first }

-- a cause that never occurred has no line
abbrev pub drops_line : Count → List ℕ → List ℕ
drops_line c what =
    if c.count == 0 then []
    else codes "    " ++ decimal c.count ++ codes " dropped: " ++ what ++ codes " (first: record "
    ++ decimal c.first ++ codes ")\n"

-- ---- all causes

abbrev pub never_for : Why → Row
never_for why = record { why = why; count = never }

-- no packet was dropped
unfoldable pub no_drops : Table
no_drops = record { rows = map never_for all_causes }

-- a cause counts one more if its counter went up
abbrev pub row_after : ℕ → Counters → Counters → Row → Row
row_after number a b row =
    if rose (counter_of row.why) a b then record row { count = once_more number row.count } else row

unfoldable pub drops_added : ℕ → Counters → Counters → Table → Table
drops_added number a b t = record { rows = map (row_after number a b) t.rows }

-- a line for each cause for which a packet was dropped
abbrev pub row_text : Row → List ℕ
row_text row = drops_line row.count (cause_words row.why)

unfoldable pub table_text : Table → List ℕ
table_text t = flat_map row_text t.rows
