use Rattle.std.proofs.Common.{[], sym, ◌∙◌}
use Rattle.std.proofs.lemmas.Option.{none-some, same_Some}
use Rattle.g_plain.specs.PlainTree.{input_name}
use Rattle.g_tree.specs.AskedRecords.{zeros}
use Rattle.g_tree.specs.Records.{name_of, tree_of}
use Rattle.g_tree.proofs.NamedLemmas.{name_found}
use Rattle.g_tree.proofs.PutLemmas.{named_found}
use Rattle.g_store.proofs.NameLemmas.{is_there, name_any, no_file, no_user}
use Rattle.g_store.proofs.migrating.file_named.Goals as goal

pub returns-in_default-user_number-clause-err : goal.returns-in_default-user_number-clause-err
returns-in_default-user_number-clause-err c =
    λ bytes next.
    no_user (tree_of c.args.tree.now.users c.args.tree.now.files bytes next) c.args.path.now c.in-Some.user c.in-Some.is (sym (c.in_default-user_number.ensures.there bytes next))

pub returns-in_default-find-clause-err : goal.returns-in_default-find-clause-err
returns-in_default-find-clause-err c =
    λ bytes next.
    no_file (tree_of c.args.tree.now.users c.args.tree.now.files bytes next) c.args.path.now c.in-Some.user c.in-Some.is (sym (c.in-Some-user_number.ensures.there bytes next))
    (name_of c.args.tree.now.users c.in-Some-user_number.owner) (sym (c.in_default-find.ensures.there bytes next))

pub unreachable-requires : goal.unreachable-requires
unreachable-requires c =
    let users = c.args.tree.now.users in
    let files = c.args.tree.now.files in
    let full = input_name (tree_of users files zeros 0) (name_of users c.in-Some-user_number.owner) c.args.path.now in
    none-some full (c.in_default-full_name.ensures.name ∙ name_found users files full c.in-Some-find.number c.users-users.ensures.records (sym (c.in-Some-find.ensures.number zeros 0)))

pub returns-clause-ok : goal.returns-clause-ok
returns-clause-ok c =
    let users = c.args.tree.now.users in
    let files = c.args.tree.now.files in
    let who = name_of users c.in-Some-user_number.owner in
    let number = c.in-Some-find.number in
    let rules = c.users-users.ensures.records in
    let (r, (there, named, numbered)) = named_found users files rules number c.in-Some-full_name.full c.in-Some-full_name.ensures.number in record {
      rules = rules;
      rec = r;
      there = there;
      number_is = numbered;
      name_is = named;
      named = λ bytes next.
          let t = tree_of users files bytes next in
          let full = input_name t who c.args.path.now in record {
            full_is = same_Some c.in-Some-full_name.full full (c.in-Some-full_name.ensures.name ∙ name_found users files full number rules (sym (c.in-Some-find.ensures.number bytes next)))
                ∙ name_any t c.args.path.now c.in-Some.user c.in-Some.is who [];
            granted = is_there t c.args.path.now c.in-Some.user c.in-Some.is (sym (c.in-Some-user_number.ensures.there bytes next)) who (sym (c.in-Some-find.ensures.there bytes next));
          };
    }
