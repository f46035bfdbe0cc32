use Rattle.bridge_rules.specs.State.{slot}
use Rattle.bridge_rules.specs.Answers.{stepped_of}
use Rattle.bridge_rules.specs.Turn.{send_for}
use Rattle.bridge_rules.proofs.SoundTest.{true_sound}
use Rattle.bridge.proofs.SentFrames.{readies}
use Rattle.bridge.proofs.turning.send_for.Goals as goal

pub invariant_of-sending : goal.invariant_of-sending
unfolding slot
invariant_of-sending c =
    let w = readies c.args.b c.args.k c.requires.0 c.requires.1 c.requires.2 in
    record {
      own_number = (true_sound c.args.b c.requires.0).own;
      one_of_four = c.requires.1;
      device = w.held.args.device;
      table = w.held.args.table;
      unfinished = w.partway.below;
      few = w.held.args.few;
      inside = w.held.args.inside;
    }

pub sent_slot-requires : goal.sent_slot-requires
unfolding slot
sent_slot-requires c =
    (readies c.args.b c.args.k c.requires.0 c.requires.1 c.requires.2).sends

pub returns : goal.returns
unfolding send_for slot stepped_of
returns c =
    rw (c.frame.ensures, c.sent_slot.ensures, c.sent_rests.ensures)
