-- Document 01, "Records and images": the window as it is read. The Rust: Option<PendingHead060>. Document 02, R-6, adds
-- the head's opcode and address: "The window keeps both, zero when shut".
--
--   shut       ==  the shut window
--                  "A shut window has zeros"
--   seen w     ==  the window w as it is read
--                  "A state handed in shut with other window fields set is read, and handed back, as if they were zero"
--   unnamed w  ==  the window w without its head's opcode and address: with zeros in their place
--                  "They enter no cost; demand 2's next state is read without them"
use Rattle.std.specs.Prelude.{false, cond}
use Rattle.window.specs.declared.Window.{Window}

abbrev pub shut : Window
shut = record { opened = false; defs = 0; ccr = false; mem = false; warm = false; op = 0; address = 0 }

abbrev pub seen : Window → Window
seen w = cond w.opened w shut

abbrev pub unnamed : Window → Window
unnamed w =
    record {
      opened = w.opened;
      defs = w.defs;
      ccr = w.ccr;
      mem = w.mem;
      warm = w.warm;
      op = 0;
      address = 0;
    }
