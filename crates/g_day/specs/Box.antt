-- The store in its box, which is never empty. What an empty box would represent doesn't matter.
use Rattle.std.specs.Prelude.{false, [], Option, Some, None}
use Rattle.g_base.specs.Fuse.{never}
use Rattle.g_slots.specs.declared.side.Side.TheVariants.{A}
use Rattle.g_store_meaning.specs.StoreInvariant.{StoreFacts}

-- What an empty box would be seen as.
abbrev pub nothing : StoreFacts
nothing = record {
  online = record {
    disc = record { held = None; size = 0; read_faults = 0; write_faults = 0; writes = 0; fuse = None; arms = never; volatile = []; dropped = [] };
    live = false;
    contents = record { head = record { next_stamp = 0; last_dump = 0; intent = None }; users = []; files = [] };
    pins = None;
    changed = [];
    touched = [];
    layout = record {
      directory = record { head = record { next_stamp = 0; last_dump = 0; intent = None }; users = []; files = [] };
      side = A;
      pages = record { a = []; b = []; marks_a = []; marks_b = [] };
    };
  };
  rack = record { reels = []; read_faults = 0; write_faults = 0; fuse = None; arms = never; risks = [] };
  dump = None;
  spent = false;
}

-- The store in the box.
abbrev pub boxed : Option StoreFacts → StoreFacts
boxed (Some store) = store
boxed None = nothing
