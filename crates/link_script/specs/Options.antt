-- The words of the command line (this project's own). The crate clap defines how they are divided into options and
-- values: `fault_of` returns the faults that it finds in words, and `subcommand_of` the results for the words after a
-- subcommand.
use Rattle.std.specs.Prelude.{◌≡◌, ◌⊎◌, ℕ, true, List, [], codes, Option, Some, None, Result, Ok, Err}
use Rattle.clap.specs.Words.{App, Rule, Row, new_app, new_rule, with_rule, with_subcommand, first_of, subcommand_of, fault_of}
use Rattle.flat_model.specs.Scripts.Grammar.{IsNumber, IsAddress}
use Rattle.flat_model.specs.declared.config.Config.{Config}
use Rattle.mbuf_pool.specs.declared.sizes.Sizes.{Sizes}
use Rattle.link_script.specs.declared.options.Task.{Task}
use Rattle.link_script.specs.declared.options.Task.TheVariants.{Run, Chain}

-- ---- the command

-- an option with a value: `--name`
abbrev pub option_rule : List ℕ → Rule
option_rule name = record (new_rule name) { long = Some name }

-- a command that has neither help nor a version of its own
abbrev pub bare_app : List ℕ → App
bare_app name =
    record (new_app name) { top = record (new_app name).top { disable_help_flag = true; disable_version_flag = true } }

-- `run` with its six options
abbrev pub run_app : App
run_app =
    with_rule (with_rule (with_rule (with_rule (with_rule (with_rule (bare_app (codes "run"))
    (option_rule (codes "addr")))
    (option_rule (codes "bcast")))
    (option_rule (codes "mtu")))
    (option_rule (codes "mbufs")))
    (option_rule (codes "clusters")))
    (option_rule (codes "id"))

-- `chain` with its two options
abbrev pub chain_app : App
chain_app =
    with_rule (with_rule (bare_app (codes "chain")) (option_rule (codes "mbufs"))) (option_rule (codes "clusters"))

-- `bsdudp`, which needs a subcommand
abbrev pub top_app : App
top_app = record (bare_app (codes "bsdudp")) {
  top = record (bare_app (codes "bsdudp")).top { disable_help_subcommand = true; subcommand_required = true };
}

abbrev pub whole_app : App
whole_app = with_subcommand (with_subcommand top_app run_app.top) chain_app.top

-- ---- the values of the options

-- a number of at most `most`, written as in scripts, or the default if it isn't given
abbrev pub HasNumber : ℕ → ℕ → Option (List ℕ) → ℕ → Type 0
HasNumber most default None n = n ≡ default
HasNumber most default (Some text) n = IsNumber most text n

-- an address, written as in scripts; a text that isn't an address counts as 0.0.0.0
abbrev pub HasAddress : ℕ → Option (List ℕ) → ℕ → Type 0
HasAddress default None ip = ip ≡ default
HasAddress default (Some text) ip = IsAddress text ip ⊎ (((a : ℕ) → ¬ IsAddress text a) × (ip ≡ 0))

-- The configuration with the values of these options, and defaults for the options that aren't given.
pub record Names (defaults : Config) (text : List ℕ → Option (List ℕ)) (c : Config) : Type 0 where
  pub addr : HasAddress defaults.addr (text (codes "addr")) c.addr
  pub bcast : HasAddress defaults.bcast (text (codes "bcast")) c.bcast
  pub mtu : HasNumber 65535 defaults.mtu (text (codes "mtu")) c.mtu
  pub mbufs : HasNumber 4294967295 defaults.mbufs (text (codes "mbufs")) c.mbufs
  pub clusters : HasNumber 4294967295 defaults.clusters (text (codes "clusters")) c.clusters
  pub first_id : HasNumber 65535 defaults.first_id (text (codes "id")) c.first_id

-- The same for the sizes of a pool.
pub record NamesSizes (defaults : Config) (text : List ℕ → Option (List ℕ)) (z : Sizes) : Type 0 where
  pub mbufs : HasNumber 4294967295 defaults.mbufs (text (codes "mbufs")) z.mbufs
  pub clusters : HasNumber 4294967295 defaults.clusters (text (codes "clusters")) z.clusters

-- A subcommand of this name requests this task: `run` the script of calls on sockets, `chain` the script of calls on
-- chains.
abbrev pub NamesTask : Config → List ℕ → (List ℕ → Option (List ℕ)) → Task → Type 0
NamesTask defaults name text (Run c) = (name ≡ codes "run") × Names defaults text c
NamesTask defaults name text (Chain z) = (name ≡ codes "chain") × NamesSizes defaults text z

-- The words, the program's name first, are a subcommand with options that requests this task.
pub record IsCommand (defaults : Config) (words : List (List ℕ)) (task : Task) : Type 0 where
  pub taken : fault_of whole_app words ≡ []
  pub name : List ℕ
  pub rows : List Row
  pub found : subcommand_of whole_app words ≡ Some (name, rows)
  pub names : NamesTask defaults name (λ id. first_of id rows) task

-- The words, if they could be read, request this task. `texts` are their bytes.
abbrev pub IsAskedBy : {W E : Type 0} → (W → List (List ℕ)) → Config → Result W E → Task → Type 0
IsAskedBy texts defaults (Ok words) task = IsCommand defaults (texts words) task
IsAskedBy texts defaults (Err e) task = ⊥
