use Rattle.std.proofs.Common.{◌++◌, ap, ◌∙◌, string_bytes}
use Rattle.percent_encoding.specs.Percent.{percent_encode}
use Rattle.script.specs.declared.writing.arguments.TheConstants.{ESCAPED}
use Rattle.script.proofs.TextLemmas.{percent_encode-name_text}
use Rattle.script.proofs.writing.arguments.write_name.Goals as goal

pub returns : goal.returns
returns c =
    c.in_ok-append_to.ensures.ok
    ∙ ap (λ name. string_bytes c.args.text.now ++ name)
    (c.percent_encode.ensures.text ∙ ap (percent_encode ESCAPED) c.bytes.ensures.bytes ∙ percent_encode-name_text c.args.name.now)
