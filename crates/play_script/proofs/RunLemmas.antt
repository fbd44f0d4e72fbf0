-- A player before its first line, and a machine that can't be booted.
use Rattle.std.proofs.Common.{◌≡◌, ℕ, Bool, true, false, List, Option, None, Result, Err, refl, subst}
use Rattle.flat_model.specs.Machine.Event.{Event, Reply}
use Rattle.flat_model.specs.Machine.State.{State, boot}
use Rattle.flat_model.specs.declared.config.Config.{Config}
use Rattle.script_loop.specs.Serves.{Serves}
use Rattle.script_loop.specs.declared.fault.RunFault.{RunFault}
use Rattle.script_loop.specs.declared.fault.RunFault.TheVariants.{Read, Write, Memory, TooManyLines, BadSizes, BadConfig}
use Rattle.script_loop.proofs.Laws.{Moves-none}
use Rattle.link_script.specs.Boots.{IsRunUnbooted}
use Rattle.play_text.specs.declared.form.Form.{Form}
use Rattle.play_pcap.specs.Files.{no_folder}
use Rattle.play_pcap.specs.Traces.{Traced, unwritten}
use Rattle.play_script.specs.Reports.{Play, Reports, started}

pub started-is : (machine : State) (traced : Traced) (config : Config) (number : ℕ) (sound lacks texts : Bool)
    (form form' : Form) (name name' : List ℕ)
    → config ≡ machine.config → form ≡ form' → number ≡ 0 → name ≡ name' → sound ≡ true → lacks ≡ false → texts ≡ false
    → record (started machine traced form name)
    { config = config; number = number; sound = sound; lacks = lacks; texts = texts }
    ≡ started machine traced form' name'
started-is machine traced config number sound lacks texts form form' name name' c e f h s l q =
    rw (c, e, f, h, s, l, q) refl

unserved : (step : State → Event → Reply → State → Type 0) (has : List ℕ → List ℕ → Type 0) (c : Config)
    (fault : RunFault) (begun : Play) (a w : Option (List ℕ))
    → IsRunUnbooted c fault → Serves (Reports step has) begun begun a a w w (Err fault)
unserved step has c Memory begun a w h = (Moves-none a w, refl)
unserved step has c BadSizes begun a w h = (Moves-none a w, refl)
unserved step has c BadConfig begun a w h = (Moves-none a w, refl)
unserved step has c Read begun a w h = absurd h
unserved step has c Write begun a w h = absurd h
unserved step has c TooManyLines begun a w h = absurd h

-- without a machine, no line is served
pub Serves-unbooted : (step : State → Event → Reply → State → Type 0) (has : List ℕ → List ℕ → Type 0) (c : Config)
    (fault : RunFault) (traced : Traced)
    (form : Form) (name : List ℕ) (a w : Option (List ℕ)) → IsRunUnbooted c fault
    → (new : Play) × Serves (Reports step has) (started (boot c) traced form name) new a a w w (Err fault)
    × (true ≡ new.sound) × (false ≡ new.lacks) × (traced ≡ new.traced)
Serves-unbooted step has c fault traced form name a w h =
    let begun = started (boot c) traced form name in
    (begun, unserved step has c fault begun a w h, refl, refl, refl)

-- the outcome of serving a script with a capture
abbrev pub Served : (State → Event → Reply → State → Type 0) → (List ℕ → List ℕ → Type 0) → State → Traced → Form
    → List ℕ → Option (List ℕ)
    → Option (List ℕ) → Option (List ℕ) → Option (List ℕ) → Result Unit RunFault → Bool → Bool → Traced → Type 0
Served step has machine traced form name a b w v r sound lacks after =
    (new : Play) × Serves (Reports step has) (started machine traced form name) new a b w v r × (sound ≡ new.sound)
    × (lacks ≡ new.lacks) × (after ≡ new.traced)

-- without memory, no line is served
pub Serves-unplayed : (step : State → Event → Reply → State → Type 0) (has : List ℕ → List ℕ → Type 0) (machine : State)
    (traced : Traced) (form : Form) (name : List ℕ) (a w : Option (List ℕ))
    → Served step has machine traced form name a a w w (Err Memory) true false traced
Serves-unplayed step has machine traced form name a w =
    (started machine traced form name, (Moves-none a w, refl), refl, refl, refl)

pub Serves-captured : (step : State → Event → Reply → State → Type 0) (has : List ℕ → List ℕ → Type 0)
    (machine booted : State) (traced : Traced)
    (form : Form) (name : List ℕ) (a b w v : Option (List ℕ)) (r : Result Unit RunFault) (sound lacks : Bool)
    (after : Traced) → machine ≡ booted
    → Served step has machine traced form name a b w v r sound lacks after
    → Served step has booted traced form name a b w v r sound lacks after
Serves-captured step has machine booted traced form name a b w v r sound lacks after same h =
    subst (λ (m : State). Served step has m traced form name a b w v r sound lacks after) same h

-- the outcome of serving a script without files and without a capture, whatever the unused capture is
abbrev pub Untraced : (State → Event → Reply → State → Type 0) → State → Form → List ℕ → Option (List ℕ)
    → Option (List ℕ) → Option (List ℕ)
    → Option (List ℕ) → Result Unit RunFault → Bool → Bool → Type 0
Untraced step machine form name a b w v r sound lacks =
    (traced : Traced) × (new : Play) × Serves (Reports step no_folder) (started machine traced form name) new a b w v r
    × (sound ≡ new.sound) × (lacks ≡ new.lacks)

pub Serves-untraced : (step : State → Event → Reply → State → Type 0) (c : Config) (fault : RunFault) (form : Form)
    (name : List ℕ)
    (a w : Option (List ℕ)) → IsRunUnbooted c fault → Untraced step (boot c) form name a a w w (Err fault) true
    false
Serves-untraced step c fault form name a w h = (
  unwritten None,
  started (boot c) (unwritten None) form name,
  unserved step no_folder c fault (started (boot c) (unwritten None) form name) a w h,
  refl,
  refl,
)

pub Serves-booted : (step : State → Event → Reply → State → Type 0) (machine booted : State) (form : Form)
    (name : List ℕ)
    (a b w v : Option (List ℕ)) (r : Result Unit RunFault) (sound lacks : Bool) → machine ≡ booted
    → Untraced step machine form name a b w v r sound lacks → Untraced step booted form name a b w v r sound lacks
Serves-booted step machine booted form name a b w v r sound lacks same h =
    subst (λ (m : State). Untraced step m form name a b w v r sound lacks) same h

pub Serves-none : (step : State → Event → Reply → State → Type 0) (machine : State) (form : Form) (name : List ℕ)
    (a w : Option (List ℕ))
    → Untraced step machine form name a a w w (Err Memory) true false
Serves-none step machine form name a w =
    (unwritten None, started machine (unwritten None) form name, (Moves-none a w, refl), refl, refl)

-- the outcome of serving a script with a new player
pub Serves-started : (step : State → Event → Reply → State → Type 0) (has : List ℕ → List ℕ → Type 0) (machine : State)
    (traced after : Traced)
    (config : Config) (number : ℕ) (sound lacks texts : Bool) (form form' : Form) (name name' : List ℕ) (new : Play)
    (a b w v : Option (List ℕ)) (r : Result Unit RunFault)
    → config ≡ machine.config → form ≡ form' → number ≡ 0 → name ≡ name' → sound ≡ true → lacks ≡ false → texts ≡ false
    → after ≡ new.traced
    → Serves (Reports step has) (record (started machine traced form name)
    { config = config; number = number; sound = sound; lacks = lacks; texts = texts }) new a b w v r
    → (x : Play) × Serves (Reports step has) (started machine traced form' name') x a b w v r × (new.sound ≡ x.sound)
    × (new.lacks ≡ x.lacks) × (after ≡ x.traced)
Serves-started step has machine traced after config number sound lacks texts form form' name name' new a b w v r
    c e f h s l q t served = (
      new,
      subst (λ (p : Play). Serves (Reports step has) p new a b w v r)
          (started-is machine traced config number sound lacks texts form form' name name' c e f h s l q) served,
      refl,
      refl,
      t,
    )
