use Rattle.svndiff0.proofs.instruction.read_instruction.Goals as goal

pub returns-in-128-to-191-clause-within : goal.returns-in-128-to-191-clause-within
returns-in-128-to-191-clause-within c = c.read_new_data.ensures.within c.args.view
