use Rattle.vb_front.proofs.WayLemmas.{read_steps_are_apart, read_follows_its_condition, waiting_reads_ask_nothing}
use Rattle.vb_front.proofs.laws.reads_come_to_one_step.Goals as goal

pub returns-clause-apart : goal.returns-clause-apart
returns-clause-apart c = read_steps_are_apart

pub returns-clause-follows : goal.returns-clause-follows
returns-clause-follows c = read_follows_its_condition

pub returns-clause-waits : goal.returns-clause-waits
returns-clause-waits c = waiting_reads_ask_nothing
