-- What a call prints of the warning.
-- serves: tell_outlook (told)
use Rattle.std.proofs.Common.{◌≡◌, List, ℕ, Option, Result, Ok, Err, refl}
use Rattle.g_incr.specs.Layout.{Dump}
use Rattle.g_look.specs.declared.outlook.Outlook.{Outlook}
use Rattle.g_look.specs.Outlooks.{IsForeseenOn}
use Rattle.g_outlook.specs.declared.outlook.Untold.{Untold}
use Rattle.g_outlook.specs.declared.outlook.Untold.TheVariants.{DiscUnread, NoMemory, Output, TapeUnread}
use Rattle.g_outlook.specs.Telling.{Prints, Warns, warning}

pub warns_by : (blocks : List (List ℕ)) (dumps : List Dump) (o : Outlook) (result : Result (Unit {0}) Untold) (before after : Option (List ℕ)) → IsForeseenOn blocks dumps o
    → Prints (warning o.refusal o.missing) result before after → Warns blocks dumps result before after
warns_by blocks dumps o (Ok _) before after is prints = (warning o.refusal o.missing, (o, is, refl), prints)
warns_by blocks dumps o (Err Output) before after is prints = (warning o.refusal o.missing, (o, is, refl), prints)
warns_by blocks dumps o (Err DiscUnread) before after is prints = prints
warns_by blocks dumps o (Err TapeUnread) before after is prints = prints
warns_by blocks dumps o (Err NoMemory) before after is prints = prints
