-- The stores that the code keeps by value, as the definition's list.
-- Assumes nothing.
use Rattle.std.specs.Prelude.{List, [], ◌∷◌}
use Rattle.memory.specs.declared.stores.Stores.{Stores}
use Rattle.types.specs.declared.machine.Store.{Store}

abbrev pub listed : Stores → List Store
listed Stores.None = []
listed (Stores.One a) = a ∷ []
listed (Stores.Two a b) = a ∷ b ∷ []
listed (Stores.Three a b c) = a ∷ b ∷ c ∷ []
