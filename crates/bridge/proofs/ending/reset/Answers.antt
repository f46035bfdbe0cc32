use Rattle.wire.specs.Order.{◌if◌else◌}
use Rattle.bridge_rules.specs.Ending.{reset_of, reset_number}
use borrow.Author.Tests.{lt-ltb, le-ltb}
use Rattle.bridge_rules.proofs.Demand3.{demand3}
use Rattle.bridge_rules.proofs.Calls.{calls}
use Rattle.bridge_rules.proofs.Corollaries.{corollaries}
use Rattle.bridge_examples.proofs.Examples.{examples}
use Rattle.bridge.proofs.ending.reset.Goals as goal

pub returns-then-own-gt15 : goal.returns-then-own-gt15
unfolding reset_of reset_number ◌if◌else◌
returns-then-own-gt15 c = record {
  value = rw (c.refused.ensures, lt-ltb _ _ c.if-own-gt15.true);
  demand3 = demand3;
  corollaries = corollaries;
  calls = calls;
  examples = examples;
}

pub returns : goal.returns
unfolding reset_of reset_number ◌if◌else◌
returns c = record {
  value = rw (c.fresh.ensures, le-ltb _ _ c.if-own-gt15.false);
  demand3 = demand3;
  corollaries = corollaries;
  calls = calls;
  examples = examples;
}
