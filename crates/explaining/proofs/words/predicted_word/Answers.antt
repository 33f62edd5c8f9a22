-- `predicted_word`: by the answer.
use mathlib.Core.Path.{refl}
use Rattle.explaining.proofs.words.predicted_word.Goals as goal

pub returns-in-NotConsulted : goal.returns-in-NotConsulted
returns-in-NotConsulted c = rw c.in-NotConsulted.is refl

pub returns-in-Miss : goal.returns-in-Miss
returns-in-Miss c = rw c.in-Miss.is refl

pub returns-in-PredictedNotTaken : goal.returns-in-PredictedNotTaken
returns-in-PredictedNotTaken c = rw c.in-PredictedNotTaken.is refl

pub returns-in-PredictedTaken : goal.returns-in-PredictedTaken
returns-in-PredictedTaken c = rw c.in-PredictedTaken.is refl
