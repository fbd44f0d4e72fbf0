-- The mbufs of a slot's chain as lines of a text, from which a picture can be drawn (this project's own). Clusters have
-- numbers in the order in which they first appear in the slots, so a drawing doesn't show which clusters of the pool
-- they are.
use Rattle.std.specs.Prelude.{ℕ, ◌==◌, Bool, true, false, List, [], ◌∷◌, ◌++◌, codes, decimal, position, is_some, Option, Some, None, Result, Ok, Err, if◌then◌else◌}
use Rattle.flat_model.specs.Scripts.Texts.{hex_text}
use Rattle.mbuf_chain.specs.Chain.{Entry}
use Rattle.script_loop.specs.declared.fault.RunFault.{RunFault}
use Rattle.chain_script.specs.Machines.{Machine, Slot, entries_in, entries_at, header_at}

-- ---- the numbers of clusters
-- how many clusters were seen before this one
abbrev pub place_in : List ℕ → Option ℕ → Option ℕ
place_in seen None = None
place_in seen (Some c) = position (λ d. d == c) seen

-- the clusters that were seen, followed by this one if it is new
abbrev pub found_after : List ℕ → Option ℕ → List ℕ
found_after seen None = seen
found_after seen (Some c) = if is_some (position (λ d. d == c) seen) then seen else seen ++ c ∷ []

-- the same after all mbufs of a chain
abbrev pub collected_all : List ℕ → List Entry → List ℕ
collected_all seen [] = seen
collected_all seen (e ∷ es) = collected_all (found_after seen e.cluster) es

-- the same after all slots
abbrev pub collected_slots : List ℕ → List (Option Slot) → List ℕ
collected_slots seen [] = seen
collected_slots seen (s ∷ ss) = collected_slots (collected_all seen (entries_in s)) ss

-- the clusters of all slots, each once, by their first appearance
abbrev pub clusters_seen : Machine → List ℕ
clusters_seen b = collected_slots [] b.slots

-- ---- the text
abbrev pub header_text : Bool → List ℕ
header_text true = codes "pkthdr "
header_text false = []

abbrev pub cluster_text : Option ℕ → List ℕ
cluster_text None = []
cluster_text (Some k) = codes "cluster " ++ decimal k ++ codes " "

-- an mbuf: its packet header, its cluster, the offset of its bytes in the mbuf or in the cluster, and the bytes
abbrev pub mbuf_line : List ℕ → Bool → Entry → List ℕ
mbuf_line seen header e =
    header_text header ++ cluster_text (place_in seen e.cluster) ++ decimal e.start ++ codes " " ++ hex_text e.bytes
    ++ codes "\n"

-- all mbufs of a chain; the first one has the packet header, if there is one
abbrev pub mbuf_lines : List ℕ → Bool → List Entry → List ℕ
mbuf_lines seen header [] = []
mbuf_lines seen header (e ∷ es) = mbuf_line seen header e ++ mbuf_lines seen false es

-- the drawing of a slot: a line for each mbuf, and no line if the slot is empty or there is no such slot
abbrev pub drawing : Machine → ℕ → List ℕ
drawing b i = mbuf_lines (clusters_seen b) (header_at b i) (entries_at b i)

-- ---- the run
-- the outcome of serving the script
abbrev pub served : {A : Type 0} → Result A RunFault → Result Unit RunFault
served (Ok drawn) = Ok tt
served (Err fault) = Err fault
