use Rattle.std.proofs.Common.{◌≡◌, refl, ap, ap₂, ◌∙◌, true, codes}
use Rattle.std.proofs.lemmas.Result.{IfOk-weaker}
use Rattle.clap.specs.Words.{App, app_of, with_rule, with_subcommand}
use Rattle.link_script.specs.Options.{bare_app, run_app, chain_app, top_app}
use Rattle.link_script.proofs.options.command.Goals as goal

pub returns : goal.returns
returns c =
    let bare_run : app_of c.disable_version_flag.result ≡ bare_app (codes "run") =
    rw (c.disable_version_flag.ensures, c.disable_help_flag.ensures)
    (ap (λ (a : App). record a { top = record a.top { disable_help_flag = true; disable_version_flag = true } })
    c.new.ensures.app) in
    let run_is : app_of c.in_ok-run.run' ≡ run_app =
    c.in_ok-run.ensures.shape c.option-6.ensures.local
    ∙ ap₂ with_rule (c.in_ok-arg-5.ensures.shape c.option-5.ensures.local
    ∙ ap₂ with_rule (c.in_ok-arg-4.ensures.shape c.option-4.ensures.local
    ∙ ap₂ with_rule (c.in_ok-arg-3.ensures.shape c.option-3.ensures.local
    ∙ ap₂ with_rule (c.in_ok-arg-2.ensures.shape c.option-2.ensures.local
    ∙ ap₂ with_rule (c.in_ok-arg.ensures.shape c.option.ensures.local
    ∙ ap₂ with_rule bare_run c.option.ensures.rule)
    c.option-2.ensures.rule) c.option-3.ensures.rule) c.option-4.ensures.rule) c.option-5.ensures.rule)
    c.option-6.ensures.rule in
    let bare_chain : app_of c.disable_version_flag-2.result ≡ bare_app (codes "chain") =
    rw (c.disable_version_flag-2.ensures, c.disable_help_flag-2.ensures)
    (ap (λ (a : App). record a { top = record a.top { disable_help_flag = true; disable_version_flag = true } })
    c.new-2.ensures.app) in
    let chain_is : app_of c.in_ok-chain.chain ≡ chain_app =
    c.in_ok-chain.ensures.shape c.option-8.ensures.local
    ∙ ap₂ with_rule (c.in_ok-arg-6.ensures.shape c.option-7.ensures.local
    ∙ ap₂ with_rule bare_chain c.option-7.ensures.rule)
    c.option-8.ensures.rule in
    let top_is : app_of c.subcommand_required.result ≡ top_app =
    rw (
      c.subcommand_required.ensures,
      c.disable_help_subcommand.ensures,
      c.disable_version_flag-3.ensures,
      c.disable_help_flag-3.ensures,
    )
    (ap (λ (a : App). record a {
      top = record a.top {
        disable_help_flag = true;
        disable_version_flag = true;
        disable_help_subcommand = true;
        subcommand_required = true;
      };
    }) c.new-3.ensures.app) in
    IfOk-weaker c.subcommand-2.result _ _ (λ r h.
    h.shape
    (rw (
      c.in_ok-chain.ensures.globals,
      c.option-8.ensures.local,
      c.in_ok-arg-6.ensures.globals,
      c.option-7.ensures.local,
      c.disable_version_flag-2.ensures,
      c.disable_help_flag-2.ensures,
      c.new-2.ensures.local,
    ) refl)
    ∙ ap₂ with_subcommand (c.in_ok-subcommand.ensures.shape
    (rw (
      c.in_ok-run.ensures.globals,
      c.option-6.ensures.local,
      c.in_ok-arg-5.ensures.globals,
      c.option-5.ensures.local,
      c.in_ok-arg-4.ensures.globals,
      c.option-4.ensures.local,
      c.in_ok-arg-3.ensures.globals,
      c.option-3.ensures.local,
      c.in_ok-arg-2.ensures.globals,
      c.option-2.ensures.local,
      c.in_ok-arg.ensures.globals,
      c.option.ensures.local,
      c.disable_version_flag.ensures,
      c.disable_help_flag.ensures,
      c.new.ensures.local,
    ) refl)
    ∙ ap₂ with_subcommand top_is (ap (λ (a : App). a.top) run_is)) (ap (λ (a : App). a.top)
    chain_is)) c.subcommand-2.ensures
