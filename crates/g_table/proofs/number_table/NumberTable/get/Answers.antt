use Rattle.std.specs.Option.{option_copied}
use Rattle.g_table.proofs.TableLemmas.{found_listed, none_listed}
use Rattle.g_table.proofs.number_table.NumberTable.get.Goals as goal

pub returns-in-Some : goal.returns-in-Some
returns-in-Some g c =
    let item = c.in-Some.ensures.lookup in
    found_listed c.deref.result.now c.self.inside.places.items c.args.number c.args.self.now c.in-Some.place.now (option_copied c.as_ref.result)
    c.deref.ensures.value c.self.view_is item.3.0 item.1 c.as_ref.ensures.value

pub returns-in-None : goal.returns-in-None
returns-in-None g c =
    let item = c.in-None.ensures.lookup in
    none_listed c.deref.result.now c.self.inside.places.items c.args.number c.args.self.now c.deref.ensures.value c.self.view_is item.3
