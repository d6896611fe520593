use Rattle.script_parser.proofs.reader.LineReader.next_in_block.Goals as goal

pub returns-in-None-clause-fault : goal.returns-in-None-clause-fault
returns-in-None-clause-fault c = c.bad_block.ensures c.args.self.now.lines.now
