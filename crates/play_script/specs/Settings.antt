-- The settings at the beginning of a script (this project's own): the options of `bsdudp run`, each a name and a value.
use Rattle.std.specs.Prelude.{◌≡◌, ◌⊎◌, ℕ, ◌/◌, ◌==◌, ◌&&◌, not, Bool, true, false, List, [], ◌∷◌, get_or, if◌then◌else◌, codes, bytes_eq, Option, Some, None, Result, Ok, Err}
use Rattle.flat_model.specs.Scripts.Grammar.{IsAddress, IsNumber}
use Rattle.flat_model.specs.declared.config.Config.{Config}
use Rattle.play_script.specs.declared.draft.Draft.{Draft}
use Rattle.play_script.specs.declared.fault.SettingFault.{SettingFault}
use Rattle.play_script.specs.declared.fault.SettingFault.TheVariants.{Late, Unknown, NoValue, NotAddress, NotNumber, OtherNetwork, BadSizes, BadConfig, Memory}
use Rattle.play_script.specs.declared.setting.Setting.{Setting}
use Rattle.play_script.specs.declared.setting.Setting.TheVariants as setting

abbrev pub fault_words : SettingFault → List ℕ
fault_words Late = codes "settings must come before all other lines"
fault_words Unknown = codes "unknown setting"
fault_words NoValue = codes "missing value"
fault_words NotAddress = codes "expected an address, such as 10.0.0.2"
fault_words NotNumber = codes "expected a number, at most 65535 for --mtu and --id"
fault_words OtherNetwork = codes "--addr must be in the network of --bcast: set --bcast too"
fault_words BadSizes = codes "--mbufs must be 1 to 65535, --clusters 0 to 4096"
fault_words BadConfig = codes "--mtu must be 68 to 4352, --addr a host's address, --bcast another address"
fault_words Memory = codes "no memory"

-- the host refused memory
abbrev pub is_lack : SettingFault → Bool
is_lack Memory = true
is_lack _ = false

-- a line of settings begins with two dashes
abbrev pub has_dashes : List ℕ → Bool
has_dashes plain = (get_or plain 0 0 == 45) && (get_or plain 1 0 == 45)

abbrev pub setting_named : List ℕ → Option Setting
setting_named word =
    if bytes_eq word (codes "--addr") then Some setting.Addr else
    if bytes_eq word (codes "--bcast") then Some setting.Bcast else
    if bytes_eq word (codes "--mtu") then Some setting.Mtu else
    if bytes_eq word (codes "--mbufs") then Some setting.Mbufs else
    if bytes_eq word (codes "--clusters") then Some setting.Clusters else
    if bytes_eq word (codes "--id") then Some setting.FirstId else None

-- ---- one setting

-- before the first setting of a line
abbrev pub drafted : Config → Draft
drafted config = record { config = config; addr = false; bcast = false }

-- the draft with the address of this value
abbrev pub GivesAddress : List ℕ → (ℕ → Draft) → Result Draft SettingFault → Type 0
GivesAddress value made (Ok new) = (ip : ℕ) × IsAddress value ip × (new ≡ made ip)
GivesAddress value made (Err fault) = ((ip : ℕ) → ¬ IsAddress value ip) × (fault ≡ NotAddress)

-- the draft with the number of this value, at most `most`
abbrev pub GivesNumber : ℕ → List ℕ → (ℕ → Draft) → Result Draft SettingFault → Type 0
GivesNumber most value made (Ok new) = (n : ℕ) × IsNumber most value n × (new ≡ made n)
GivesNumber most value made (Err fault) = ((n : ℕ) → ¬ IsNumber most value n) × (fault ≡ NotNumber)

abbrev pub Sets : Draft → Setting → List ℕ → Result Draft SettingFault → Type 0
Sets old setting.Addr value outcome =
    GivesAddress value (λ ip. record old { config = record old.config { addr = ip }; addr = true }) outcome
Sets old setting.Bcast value outcome =
    GivesAddress value (λ ip. record old { config = record old.config { bcast = ip }; bcast = true }) outcome
Sets old setting.Mtu value outcome =
    GivesNumber 65535 value (λ n. record old { config = record old.config { mtu = n } }) outcome
Sets old setting.Mbufs value outcome =
    GivesNumber 4294967295 value (λ n. record old { config = record old.config { mbufs = n } }) outcome
Sets old setting.Clusters value outcome =
    GivesNumber 4294967295 value (λ n. record old { config = record old.config { clusters = n } }) outcome
Sets old setting.FirstId value outcome =
    GivesNumber 65535 value (λ n. record old { config = record old.config { first_id = n } }) outcome

abbrev pub SetsNamed : Option Setting → Draft → List ℕ → Result Draft SettingFault → Type 0
SetsNamed (Some named) old value outcome = Sets old named value outcome
SetsNamed None old value outcome = outcome ≡ Err Unknown

-- ---- all settings of a line

-- a name without a value
abbrev pub alone_fault : Option Setting → SettingFault
alone_fault (Some named) = NoValue
alone_fault None = Unknown

-- Only the address is set, and its first three octets differ from those of the broadcast address.
abbrev pub leaves_network : Draft → Bool
leaves_network d = d.addr && not d.bcast && not (d.config.addr / 256 == d.config.bcast / 256)

abbrev pub finished : Draft → Result Config SettingFault
finished d = if leaves_network d then Err OtherNetwork else Ok d.config

-- names and values, one after another, up to the first fault
abbrev pub SetsAll : Draft → List (List ℕ) → Result Config SettingFault → Type 0
SetsAll old [] outcome = outcome ≡ finished old
SetsAll old (name ∷ []) outcome = outcome ≡ Err (alone_fault (setting_named name))
SetsAll old (name ∷ value ∷ more) outcome =
    ((mid : Draft) × SetsNamed (setting_named name) old value (Ok mid) × SetsAll mid more outcome)
    ⊎ ((fault : SettingFault) × SetsNamed (setting_named name) old value (Err fault) × (outcome ≡ Err fault))

-- the words of a line applied to a configuration
abbrev pub IsSet : Config → List (List ℕ) → Result Config SettingFault → Type 0
IsSet config words outcome = SetsAll (drafted config) words outcome
