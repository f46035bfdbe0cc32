use borrow.Author.Rules.{rules}
use mathlib.Core.Path.{ap, ◌∙◌}
use mir.Syntax.{w64}
use mir.ValLaws.{to_z-of_z}
use Rattle.listing_rules.specs.Text.{integer}
use Rattle.listing_rules.specs.Lines.{value_text}
use Rattle.listing_rules.proofs.RawValues.{raw_is, raw_not_refused}
use Rattle.listing.proofs.Puts.{◌then◌, puts_as}
use Rattle.listing.proofs.text.Text.put_value.Goals as goal

pub returns-in-Ok : goal.returns-in-Ok
unfolding value_text
returns-in-Ok c =
    let raw = c.raw_value in
    let a = c.args in
    let is = raw_is 2 a.field.now a.raw.now raw.result _ c.requires raw.ensures.0 c.in-Ok.is in
    c.put_bytes.ensures then puts_as _ (ap integer (to_z-of_z w64 c.in-Ok.z (search rules) ∙ is)) c.put_integer.ensures

pub returns-in_default : goal.returns-in_default
returns-in_default c =
    let raw = c.raw_value in
    let a = c.args in
    absurd (raw_not_refused 2 a.field.now a.raw.now raw.result c.requires raw.ensures.0 c.in_default.not-Ok)
