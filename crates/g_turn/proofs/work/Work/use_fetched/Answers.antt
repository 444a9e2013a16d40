use Rattle.std.proofs.Common.{ℕ, List, length, ◌∙◌, ap}
use Rattle.std.proofs.lemmas.Result.{on_ok_weaker, on_err_weaker}
use Rattle.g_turn.specs.Outcomes.{with_bytes}
use Rattle.g_turn.specs.Uses.{listed}
use Rattle.g_turn.proofs.UseLemmas.{append_part, assemble_part, assemble_well, list_well, put_part}
use Rattle.g_turn.proofs.work.Work.use_fetched.Goals as goal

pub returns-in-Put-clause-err : goal.returns-in-Put-clause-err
returns-in-Put-clause-err g c = λ path m. on_err_weaker c.put.result (λ did.
    put_part g.S.Filestore.answers c.args.asker.now.who.now c.args.store.now c.put.new.store c.args.asker.now.room path m c.args.use_for c.in-Put.to c.args.fetched.0 c.args.fetched.1 c.args.self.now c.count_bytes.new.self
    c.in-Put.is (c.count_bytes.ensures.ok ∙ ap (λ (b : List ℕ). with_bytes (length b) c.args.self.now) c.as_slice.ensures) did) c.put.ensures.err

pub returns-in-Append-clause-err : goal.returns-in-Append-clause-err
returns-in-Append-clause-err g c = λ path m. on_err_weaker c.append.result (λ did.
    append_part g.S.Filestore.answers c.args.asker.now.who.now c.args.store.now c.append.new.store c.args.asker.now.room path m c.args.use_for c.in-Append.to c.args.fetched.0 c.args.fetched.1 c.args.self.now
    c.count_bytes.new.self c.in-Append.is (c.count_bytes.ensures.ok ∙ ap (λ (b : List ℕ). with_bytes (length b) c.args.self.now) c.as_slice.ensures) did) c.append.ensures.err

pub returns-in-Assemble-clause-ok : goal.returns-in-Assemble-clause-ok
returns-in-Assemble-clause-ok g c = λ path m. on_ok_weaker c.assemble_bytes.result (λ did.
    assemble_well g.S.Filestore.answers g.S.Filestore.is_spent g.S.Filestore.can_wait c.args.asker.now.who.now c.args.store.now c.assemble_bytes.new.store c.args.asker.now.room path m c.args.use_for c.in-Assemble.to
    c.args.fetched.0 c.args.fetched.1 c.as_slice-in-Assemble.result.now c.args.self.now c.count_bytes.new.self c.assemble_bytes.new.self c.in-Assemble.is
    (c.count_bytes.ensures.ok ∙ ap (λ (b : List ℕ). with_bytes (length b) c.args.self.now) c.as_slice.ensures) c.as_slice-in-Assemble.ensures did) c.assemble_bytes.ensures.ok

pub returns-in-Assemble-clause-err : goal.returns-in-Assemble-clause-err
returns-in-Assemble-clause-err g c = λ path m. on_err_weaker c.assemble_bytes.result (λ did.
    assemble_part g.S.Filestore.answers c.args.asker.now.who.now c.args.store.now c.assemble_bytes.new.store c.args.asker.now.room path m c.args.use_for c.in-Assemble.to c.args.fetched.0 c.args.fetched.1 c.as_slice-in-Assemble.result.now
    c.args.self.now c.count_bytes.new.self c.in-Assemble.is (c.count_bytes.ensures.ok ∙ ap (λ (b : List ℕ). with_bytes (length b) c.args.self.now) c.as_slice.ensures) c.as_slice-in-Assemble.ensures did) c.assemble_bytes.ensures.err

pub returns-in-List-clause-ok : goal.returns-in-List-clause-ok
returns-in-List-clause-ok g c = λ path m. on_ok_weaker c.list_bytes.result (λ did.
    list_well g.S.Filestore.answers g.S.Filestore.is_spent g.S.Filestore.can_wait c.args.asker.now.who.now c.args.store.now c.args.asker.now.room path m c.args.use_for c.args.fetched.0 c.args.fetched.1 c.args.self.now
    c.count_bytes.new.self c.list_bytes.new.self c.in-List.is (c.count_bytes.ensures.ok ∙ ap (λ (b : List ℕ). with_bytes (length b) c.args.self.now) c.as_slice.ensures)
    (did ∙ ap (λ (b : List ℕ). listed c.args.asker.now.room path m c.args.fetched.0 b c.count_bytes.new.self) c.as_slice-in-List.ensures)) (c.list_bytes.ensures.ok path m)
