-- A bounded stack over lent entries: what it holds, and what its calls do to that.
use Rattle.std.specs.Prelude.{ℕ, cond, List, [], ◌∷◌, reverse, length, take, nat_lt}
use Rattle.stack.specs.declared.Stack.{Stack}

-- all entries that were lent, in their order in memory
abbrev pub entries : {T : Type 0} → Stack T → List T
entries s = s.room.now

-- how many entries there is room for in all
abbrev pub limit : {T : Type 0} → Stack T → ℕ
limit s = length (entries s)

-- what the stack holds, the oldest first: the lent entries below its length
abbrev pub stored : {T : Type 0} → Stack T → List T
stored s = take s.len (entries s)

-- what the stack holds, the newest first
abbrev pub held : {T : Type 0} → Stack T → List T
held s = reverse (stored s)

-- an entry more on top, unless as many are held as there is room for
abbrev pub pushed : {T : Type 0} → ℕ → List T → T → List T
pushed room xs x = cond (nat_lt (length xs) room) (x ∷ xs) xs

-- all but the newest
abbrev pub older : {T : Type 0} → List T → List T
older [] = []
older (x ∷ xs) = xs
