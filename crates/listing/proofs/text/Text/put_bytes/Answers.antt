use borrow.Author.Rules.{rules}
use mathlib.Core.Path.{refl}
use native.Mathlib.Omega.{arith}
use Rattle.listing_rules.proofs.PutsText.{puts_bytes}
use Rattle.listing.proofs.text.Text.put_bytes.Goals as goal

pub returns : goal.returns
returns c =
    let a = c.args in
    record {
      same_length = search rules;
      text = λ h. puts_bytes a.self.now.out.now a.self.now.len a.bytes.now _ _ c.put.ensures (search rules) (omega (arith, c.saturating_add-self.ensures));
      same_output = refl;
      no_shorter = omega (arith, c.saturating_add-self.ensures);
    }
