-- `reason_word`: by the reason.
use mathlib.Core.Path.{refl}
use Rattle.explaining.proofs.words.reason_word.Goals as goal

pub returns-in-Paired : goal.returns-in-Paired
returns-in-Paired c = rw c.in-Paired.is refl

pub returns-in-WindowShut : goal.returns-in-WindowShut
returns-in-WindowShut c = rw c.in-WindowShut.is refl

pub returns-in-EssOff : goal.returns-in-EssOff
returns-in-EssOff c = rw c.in-EssOff.is refl

pub returns-in-NotCached : goal.returns-in-NotCached
returns-in-NotCached c = rw c.in-NotCached.is refl

pub returns-in-NotSimple : goal.returns-in-NotSimple
returns-in-NotSimple c = rw c.in-NotSimple.is refl

pub returns-in-Register : goal.returns-in-Register
returns-in-Register c = rw c.in-Register.is refl

pub returns-in-Ccr : goal.returns-in-Ccr
returns-in-Ccr c = rw c.in-Ccr.is refl

pub returns-in-Memory : goal.returns-in-Memory
returns-in-Memory c = rw c.in-Memory.is refl

pub returns-in-Refill : goal.returns-in-Refill
returns-in-Refill c = rw c.in-Refill.is refl

pub returns-in-Folded : goal.returns-in-Folded
returns-in-Folded c = rw c.in-Folded.is refl

pub returns-in-Alone : goal.returns-in-Alone
returns-in-Alone c = rw c.in-Alone.is refl

pub returns-in-NotTaken : goal.returns-in-NotTaken
returns-in-NotTaken c = rw c.in-NotTaken.is refl

pub returns-in-Mispredicted : goal.returns-in-Mispredicted
returns-in-Mispredicted c = rw c.in-Mispredicted.is refl

pub returns-in-Static : goal.returns-in-Static
returns-in-Static c = rw c.in-Static.is refl
