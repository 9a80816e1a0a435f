use Rattle.example_store.proofs.store.table_of.Goals as goal

pub returns-clause-reads : goal.returns-clause-reads
returns-clause-reads g c = record { bytes = c.read.new.buf; read = c.in_ok-read.ensures.reads; said = c.of_block.ensures }
