-- A report's five values: the state's word, steps, asked, a and b.
use Rattle.std.specs.Prelude.{ℕ, List, [], ◌∷◌, ◌++◌, codes}
use Rattle.fault.specs.Refusals.{row}
use Rattle.step.specs.Values.{kind_number, value_number}
use Rattle.machine.specs.declared.report.State.{State}
use Rattle.machine.specs.declared.report.State.TheVariants.{Refused, Paused, Done, Stopped, Full, Limit}
use Rattle.machine.specs.declared.report.Report.{Report}

-- the state's word
abbrev pub word : State → List ℕ
word Refused = codes "refused"
word Paused = codes "paused"
word (Done s) = codes "done"
word (Stopped c) = codes "stopped"
word Full = codes "full"
word Limit = codes "limit"

-- a: of a done run the kind of its value, of a stopped one the instance of the call
abbrev pub first_value : State → ℕ
first_value Refused = 0
first_value Paused = 0
first_value (Done s) = kind_number s
first_value (Stopped c) = c.instance
first_value Full = 0
first_value Limit = 0

-- b: of a done run the truth, the count or the instance, of a stopped one the operation of the call
abbrev pub second_value : State → ℕ
second_value Refused = 0
second_value Paused = 0
second_value (Done s) = value_number s
second_value (Stopped c) = c.op
second_value Full = 0
second_value Limit = 0

-- The five values.
pub record Five : Type 0 where
  pub state : List ℕ
  pub steps : ℕ
  pub asked : ℕ
  pub a : ℕ
  pub b : ℕ

abbrev pub five : Report → Five
five r = record { state = word r.state; steps = r.steps; asked = r.asked; a = first_value r.state; b = second_value r.state }

-- the text of five values
abbrev pub values : Five → List ℕ
values v = v.state ++ 32 ∷ row (v.steps ∷ v.asked ∷ v.a ∷ v.b ∷ [])

-- the text of a report: a line of names, and the five values under it
abbrev pub text : Report → List ℕ
text r = codes "state steps asked a b" ++ 10 ∷ values (five r)
