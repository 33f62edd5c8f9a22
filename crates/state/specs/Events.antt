-- Document 01, "One retirement", with breaks and clears: what one event does to a state, and a run of events. The Rust:
-- cycles_060, break_060_pipeline, clear_all, clear_user.
--
--   State             ==  a cache and a window
--   consults i k      ==  a branch asks the cache: not "With EBC off or the fetch uncached"
--   answer_of c i k   ==  the cache's answer
--   cache_after       ==  the cache after a retirement
--                         "cache untouched"; "then the cache is updated"
--   as_met s i r      ==  an instruction as it retires in a state: with the opcode and the controls of the retirement
--                         r, the window and the cache's answer
--   past s i r        ==  the state after it
--   seen_state s      ==  a state as it is read
--                         "read, and handed back, as if they were zero"
--   broken_state s    ==  the state after a break
--                         "A break shuts the window in place and touches nothing else"
--   cleared_state s   ==  the state after a clear of all
--                         "tags and window stay"
--   user_cleared s    ==  the state after a clear of user entries
--   Event             ==  a retirement, a break, a clear of all, a clear of user entries: the enum of the code
--   retiring_of s r   ==  a retirement as it is met in a state
--   after s e         ==  the state after an event
--   retirements s es  ==  the retirements of a run of events, each as it was met
--   finally s es      ==  the state after a run of events
--   costs s es        ==  what each retirement of a run costs
--   answers s es      ==  what the cache predicted of each, as a number
--                         document 02, R-5: "one byte a retirement .. 0 to 3 in this order, 0 for non-branches"
--   total ns          ==  their sum
--   count_of es       ==  how many of the events are retirements
--                         "the number of retirements"
use Rattle.std.specs.Prelude.{ℕ, suc, ◌+◌, Bool, not, cond, ◌&&◌, List, [], ◌∷◌, map}
use Rattle.class_word.specs.Word.{has, BRANCH}
use Rattle.window.specs.declared.dispatch.Instruction.{Instruction}
use Rattle.window.specs.declared.dispatch.Controls.{Controls}
use Rattle.window.specs.declared.Window.{Window}
use Rattle.cost.specs.declared.branch.Answer.{Answer}
use Rattle.cost.specs.declared.branch.Answer.TheVariants.{NotConsulted}
use Rattle.cost.specs.Branch.{taken_of, heard}
use Rattle.cost.specs.Retiring.{Retiring, retiring}
use Rattle.window.specs.Windows.{shut, seen}
use Rattle.cost.specs.Cost.{cost_of, window_of, predicted_of}
use Rattle.state.specs.declared.Retirement.{Retirement}
use Rattle.state.specs.declared.Event.{Event}
use Rattle.state.specs.declared.Event.TheVariants.{Retired, Broken, ClearedAll, ClearedUser}
use Rattle.state.specs.Board.{CacheRule, Board}

pub record State (K : CacheRule) : Type 0 where
  pub cache : K.Cache
  pub window : Window

abbrev pub consults : Instruction → Controls → Bool
consults i k = has i.word.0 BRANCH && (k.ebc && k.cached)

abbrev pub total : List ℕ → ℕ
total [] = 0
total (n ∷ ns) = n + total ns

abbrev pub count_of : List Event → ℕ
count_of [] = 0
count_of (Retired r ∷ es) = suc (count_of es)
count_of (Broken ∷ es) = count_of es
count_of (ClearedAll ∷ es) = count_of es
count_of (ClearedUser ∷ es) = count_of es

module _ (K : CacheRule) where
  unfoldable pub answer_of : K.Cache → Instruction → Controls → Answer
  answer_of c i k = cond (consults i k) (heard (K.predict c k.ppc)) NotConsulted

  unfoldable pub cache_after : K.Cache → Instruction → Controls → K.Cache
  cache_after c i k = cond (consults i k) (K.update c k.ppc (taken_of i k) (not k.supervisor)) c

  abbrev pub as_met : State K → Instruction → Retirement → Retiring
  as_met s i r = retiring r.op i r.controls s.window (answer_of s.cache i r.controls)

  abbrev pub past : State K → Instruction → Retirement → State K
  past s i r = record { cache = cache_after s.cache i r.controls; window = window_of (as_met s i r) }

  abbrev pub seen_state : State K → State K
  seen_state s = record { cache = s.cache; window = seen s.window }

  abbrev pub broken_state : State K → State K
  broken_state s = record { cache = s.cache; window = shut }

  abbrev pub cleared_state : State K → State K
  cleared_state s = record { cache = K.clear_all s.cache; window = seen s.window }

  abbrev pub user_cleared : State K → State K
  user_cleared s = record { cache = K.clear_user s.cache; window = seen s.window }

module _ (B : Board) where
  abbrev pub retiring_of : State B.rule → Retirement → Retiring
  retiring_of s r = as_met B.rule s (B.profile r.op) r

  abbrev pub after : State B.rule → Event → State B.rule
  after s (Retired r) = past B.rule s (B.profile r.op) r
  after s Broken = broken_state B.rule s
  after s ClearedAll = cleared_state B.rule s
  after s ClearedUser = user_cleared B.rule s

  unfoldable pub retirements : State B.rule → List Event → List Retiring
  retirements s [] = []
  retirements s (Retired r ∷ es) = retiring_of s r ∷ retirements (after s (Retired r)) es
  retirements s (Broken ∷ es) = retirements (after s Broken) es
  retirements s (ClearedAll ∷ es) = retirements (after s ClearedAll) es
  retirements s (ClearedUser ∷ es) = retirements (after s ClearedUser) es

  unfoldable pub finally : State B.rule → List Event → State B.rule
  finally s [] = s
  finally s (e ∷ es) = finally (after s e) es

  abbrev pub costs : State B.rule → List Event → List ℕ
  costs s es = map cost_of (retirements s es)

  abbrev pub answers : State B.rule → List Event → List ℕ
  answers s es = map predicted_of (retirements s es)
