use Rattle.g_files.proofs.BlockRiskLemmas.{front_same, secured_by}
use Rattle.g_files.proofs.block_file.BlockFile.bring_if.Goals as goal

pub returns-then-syncs-clause-no_more : goal.returns-then-syncs-clause-no_more
returns-then-syncs-clause-no_more g c = c.bring.ensures.durable.no_more

pub returns-then-syncs-clause-stored : goal.returns-then-syncs-clause-stored
returns-then-syncs-clause-stored g c = λ yes kept. c.bring.ensures.durable.stored kept

pub returns-then-syncs-clause-secured : goal.returns-then-syncs-clause-secured
returns-then-syncs-clause-secured g c =
    let f = c.args.self.now in
    secured_by f c.bring.new.self c.bring.result c.bring.ensures.len (front_same f c.bring.new.self c.bring.ensures.content) c.bring.ensures.durable

pub returns-then-syncs-clause-orderly : goal.returns-then-syncs-clause-orderly
returns-then-syncs-clause-orderly g c = λ was. c.bring.ensures.durable.orderly
