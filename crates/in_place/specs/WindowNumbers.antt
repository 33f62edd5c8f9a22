-- The numbers of a window. Document 01, "Where the Rust changes shape": "`Option` becomes an enum, or a struct with a
-- flag". The Rust: PendingHead060. Document 02, R-6: "Support needs the head's opcode and address. The window keeps
-- both".
--
--   yes n         ==  the number n says yes: it is any number but 0
--   window_at ns  ==  the window of the eight 16-bit numbers ns: open; the registers that the head defines; whether it
--                     defines the CCR, accesses memory, was cached; its opcode; its address, the low half before the
--                     high one
--   numbers_of w  ==  the eight numbers of a window: 1 for yes, 0 for no; so eight zeros for the shut one: "A shut
--                     window has zeros"
--
-- `window_at` takes the numbers as they come. That of a shut window the other seven are read, and handed back, as zeros
-- is said by the definitions that are asked of the state: "A state handed in shut with other window fields set is read,
-- and handed back, as if they were zero".
use Rattle.std.specs.Prelude.{ℕ, ◌+◌, ◌*◌, ◌/◌, ◌%◌, Bool, not, List, [], ◌∷◌, eqb, get_or}
use Rattle.bits.specs.Words.{num}
use Rattle.window.specs.declared.Window.{Window}

abbrev pub yes : ℕ → Bool
yes n = not (eqb n 0)

abbrev pub window_at : List ℕ → Window
window_at ns =
    record {
      opened = yes (get_or ns 0 0);
      defs = get_or ns 1 0;
      ccr = yes (get_or ns 2 0);
      mem = yes (get_or ns 3 0);
      warm = yes (get_or ns 4 0);
      op = get_or ns 5 0;
      address = get_or ns 6 0 + get_or ns 7 0 * 65536;
    }

abbrev pub numbers_of : Window → List ℕ
numbers_of w =
    num w.opened
    ∷ w.defs
    ∷ num w.ccr
    ∷ num w.mem
    ∷ num w.warm
    ∷ w.op
    ∷ w.address % 65536
    ∷ w.address / 65536
    ∷ []
