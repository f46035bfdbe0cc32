use Rattle.std.proofs.Common.{◌≡◌, ◌⊎◌, true, inl, inr}
use Rattle.mlg_rules.specs.Shown.{shows}
use Rattle.mlg_values.specs.Kinds.{kind_number}
use Rattle.mlg_values.specs.declared.Kind.{Kind}
use Rattle.mlg_values.specs.declared.Kind.TheVariants as K
use Rattle.mlg_values.proofs.Kind.is_shown.Goals as goal

-- each of the types that are shown
each : (k : Kind) → (k ≡ K.U08) ⊎ ((k ≡ K.S08) ⊎ ((k ≡ K.U16) ⊎ ((k ≡ K.S16) ⊎ (k ≡ K.F32)))) → true ≡ shows (kind_number k)
unfolding shows
each k (inl e) = rw e
each k (inr (inl e)) = rw e
each k (inr (inr (inl e))) = rw e
each k (inr (inr (inr (inl e)))) = rw e
each k (inr (inr (inr (inr e)))) = rw e

pub returns-in-U08 : goal.returns-in-U08
returns-in-U08 c = each c.args.self c.in-U08.is
