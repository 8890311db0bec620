-- The builders make the grammar.
use Rattle.std.proofs.Common.{◌≡◌, true, codes, ap, ap₂, ◌∙◌}
use Rattle.std.proofs.lemmas.Result.{IfOk-weaker}
use Rattle.clap.specs.Simple.{App, app_of, app_of_fields, new_app, on_top, with_subcommand}
use Rattle.words.specs.Grammar.{bare, numbered}
use Rattle.words.proofs.grammar.grammar.Goals as goal

pub returns : goal.returns
returns c =
    let named : app_of c.new.result ≡ new_app (codes "scalefs") = c.new.ensures.app in
    let words : app_of c.no_binary_name.result ≡ on_top (λ s. record s { no_binary_name = true }) (new_app (codes "scalefs")) =
    ap app_of_fields c.no_binary_name.ensures ∙ ap (on_top (λ s. record s { no_binary_name = true })) named in
    let flag : app_of c.disable_help_flag.result
    ≡ on_top (λ s. record s { no_binary_name = true; disable_help_flag = true }) (new_app (codes "scalefs")) =
    ap app_of_fields c.disable_help_flag.ensures ∙ ap (on_top (λ s. record s { disable_help_flag = true })) words in
    let help : app_of c.disable_help_subcommand.result
    ≡ on_top (λ s. record s { no_binary_name = true; disable_help_flag = true; disable_help_subcommand = true }) (new_app (codes "scalefs")) =
    ap app_of_fields c.disable_help_subcommand.ensures ∙ ap (on_top (λ s. record s { disable_help_subcommand = true })) flag in
    let bare_is : app_of c.subcommand_required.result ≡ bare =
    ap app_of_fields c.subcommand_required.ensures ∙ ap (on_top (λ s. record s { subcommand_required = true })) help in
    let made : App → App → App = λ app sub. with_subcommand app sub.top in
    let with_mkfs : App = made bare (numbered (codes "mkfs") 3 4) in
    let with_run : App = made with_mkfs (numbered (codes "run") 0 1) in
    let with_load : App = made with_run (numbered (codes "load") 3 3) in
    let with_check : App = made with_load (numbered (codes "check") 0 1) in
    let with_show : App = made with_check (new_app (codes "show")) in
    let mkfs : app_of c.in_ok-subcommand.field-0 ≡ with_mkfs =
    c.in_ok-subcommand.ensures.shape c.in_ok-mkfs.ensures.local ∙ ap₂ made bare_is c.in_ok-mkfs.ensures.app in
    let run : app_of c.in_ok-subcommand-2.field-0 ≡ with_run =
    c.in_ok-subcommand-2.ensures.shape c.in_ok-run.ensures.local ∙ ap₂ made mkfs c.in_ok-run.ensures.app in
    let load : app_of c.in_ok-subcommand-3.field-0 ≡ with_load =
    c.in_ok-subcommand-3.ensures.shape c.in_ok-load.ensures.local ∙ ap₂ made run c.in_ok-load.ensures.app in
    let check : app_of c.in_ok-subcommand-4.field-0 ≡ with_check =
    c.in_ok-subcommand-4.ensures.shape c.in_ok-check.ensures.local ∙ ap₂ made load c.in_ok-check.ensures.app in
    let show : app_of c.in_ok-subcommand-5.field-0 ≡ with_show =
    c.in_ok-subcommand-5.ensures.shape c.new-show.ensures.local ∙ ap₂ made check c.new-show.ensures.app in
    IfOk-weaker c.subcommand-6.result _ _ (λ r adds. adds.shape c.new-verify.ensures.local ∙ ap₂ made show c.new-verify.ensures.app)
    c.subcommand-6.ensures
