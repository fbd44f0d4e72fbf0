-- What a line requests to be shown (this project's own).
use Rattle.std.specs.Prelude.{ℕ, List, if◌then◌else◌, codes, bytes_eq, Option, Some, None}
use Rattle.play_show.specs.declared.topic.Topic.{Topic}
use Rattle.play_show.specs.declared.topic.Topic.TheVariants as topic

-- what a plain line requests to be shown; it has one space between each two words
abbrev pub topic_asked : List ℕ → Option Topic
topic_asked plain =
    if bytes_eq plain (codes "show sockets") then Some topic.Sockets else
    if bytes_eq plain (codes "show unfinished") then Some topic.Unfinished else
    if bytes_eq plain (codes "show queue") then Some topic.Queue else
    if bytes_eq plain (codes "show counters") then Some topic.Counters else
    if bytes_eq plain (codes "show pool") then Some topic.Pool else None
