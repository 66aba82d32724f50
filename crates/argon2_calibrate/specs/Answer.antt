-- What the program writes.
use Rattle.std.specs.Prelude.{◌≡◌, ℕ, ◌-◌, ◌/◌, ◌%◌, List, [], ◌∷◌, ◌++◌, codes, length, replicate, Bool, true, false, Option, Some}
use Rattle.std.specs.Bool.{MatchBool}
use Rattle.std.specs.Fmt.{decimal}
use Rattle.std.specs.Io.KnownBytes.{Appends}
use Rattle.json.specs.Json.{Json, boolean, number, object, member, no_members, document}
use Rattle.argon2_calibrate.specs.Choice.{IsChoice}
use Rattle.argon2_calibrate.specs.declared.choice.Found.{Found}
use Rattle.argon2_calibrate.specs.declared.options.Options.{Options}
use Rattle.argon2_calibrate.specs.declared.stopwatch.Times.{Times}

-- the line with costs as a list of parameters
abbrev pub list_text : ℕ → ℕ → ℕ → List ℕ
list_text m t p = codes "m=" ++ (decimal m ++ (codes ",t=" ++ (decimal t ++ (codes ",p=" ++ (decimal p ++ 10 ∷ [])))))

-- the line with costs as a call of `Params::new`
abbrev pub call_text : ℕ → ℕ → ℕ → List ℕ
call_text m t p = codes "Params::new(" ++ (decimal m ++ (codes ", " ++ (decimal t ++ (codes ", " ++ (decimal p
    ++ (codes ", None)" ++ 10 ∷ []))))))

-- a number below 1000000 in six digits
abbrev pub six_places : ℕ → List ℕ
six_places n = replicate (6 - length (decimal n)) 48 ++ decimal n

-- the line with microseconds as seconds, with six digits after a point
abbrev pub time_text : ℕ → List ℕ
time_text time = decimal (time / 1000000) ++ (codes "." ++ (six_places (time % 1000000)
    ++ (codes " seconds" ++ 10 ∷ [])))

-- the line that says that the machine was busy, or nothing
abbrev pub busy_text : Bool → List ℕ
busy_text true = codes "the machine was busy: times may be too long" ++ 10 ∷ []
busy_text false = []

-- costs and their time as lines
abbrev pub lines_text : Found → ℕ → List ℕ
lines_text found p = list_text found.choice.m_cost found.choice.t_cost p
    ++ call_text found.choice.m_cost found.choice.t_cost p ++ time_text found.choice.time ++ busy_text found.busy

-- costs and their time as a JSON object
abbrev pub json_of : Found → ℕ → Json
json_of found p = object (member (codes "m") (number (decimal found.choice.m_cost))
    (member (codes "t") (number (decimal found.choice.t_cost)) (member (codes "p") (number (decimal p))
    (member (codes "microseconds") (number (decimal found.choice.time))
    (member (codes "busy") (boolean found.busy) no_members)))))

-- costs that are chosen by measured times, and their time, are printed: a line with a JSON object, or lines
abbrev pub PrintsCosts : (ℕ → ℕ → ℕ → Option Times → Type 0) → Options → Option (List ℕ) → Option (List ℕ) → Type 0
PrintsCosts Takes options old new = (found : Found) × IsChoice (Takes options.lanes) options found
    × MatchBool options.json
    ((text : List ℕ) × (document text ≡ Some (json_of found options.lanes)) × Appends old new (text ++ 10 ∷ []))
    (Appends old new (lines_text found options.lanes))
