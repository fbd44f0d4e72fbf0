-- What `boot` and `end` leave in a handle, by their result codes (this project's own).
use Rattle.std.specs.Prelude.{◌≡◌, ℤ, pos, negsuc, Option, Some, None, Result, Ok, Err}
use Rattle.flat_model.specs.Machine.State.{HasSizes, IsConfig, boot}
use Rattle.net_stack.specs.Stack.{StackView, state_of}
use Rattle.net_stack.specs.declared.stack.BootFault.{BootFault}
use Rattle.net_stack.specs.declared.stack.BootFault.TheVariants.{Memory, BadSizes, BadConfig}
use Rattle.libbsdudp.specs.declared.plain.CConfig.{CConfig}
use Rattle.libbsdudp.specs.Answers.{no_stack, invalid}
use Rattle.libbsdudp.specs.Plain.{config_of}

-- 0, -ENOMEM, -EDOM or -EINVAL
abbrev pub boot_code : Result StackView BootFault → ℤ
boot_code (Ok s) = pos 0
boot_code (Err Memory) = negsuc 11
boot_code (Err BadSizes) = negsuc 32
boot_code (Err BadConfig) = invalid

abbrev pub booted_stack : Result StackView BootFault → Option StackView
booted_stack (Ok s) = Some s
booted_stack (Err fault) = None

-- the result of booting a configuration: a stack in the state of boot, or the error
abbrev pub Boots : CConfig → Result StackView BootFault → Type 0
Boots config (Ok s) = IsConfig (config_of config) × (state_of s ≡ boot (config_of config))
Boots config (Err BadSizes) = ¬ HasSizes (config_of config)
Boots config (Err BadConfig) = HasSizes (config_of config) × ¬ IsConfig (config_of config)
Boots config (Err Memory) = IsConfig (config_of config)

pub record HasBooted (config : CConfig) (answer : ℤ) (after : Option StackView) : Type 0 where
  pub reported : Result StackView BootFault
  pub boots : Boots config reported
  pub is : answer ≡ boot_code reported
  pub leaves : after ≡ booted_stack reported

-- A stack is booted into a handle without one. If the handle has a stack, that stack is unchanged, and the result is
-- -ENXIO.
abbrev pub IsBooted : Option StackView → CConfig → ℤ → Option StackView → Type 0
IsBooted (Some s) config answer after = (answer ≡ no_stack) × (after ≡ Some s)
IsBooted None config answer after = HasBooted config answer after

-- A stack is ended. If there was none, the result is -ENXIO.
abbrev pub IsEnded : Option StackView → ℤ → Option StackView → Type 0
IsEnded (Some s) answer after = (answer ≡ pos 0) × (after ≡ None)
IsEnded None answer after = (answer ≡ no_stack) × (after ≡ None)
