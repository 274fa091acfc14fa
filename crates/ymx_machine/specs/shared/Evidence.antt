-- The evidence that an allocation was refused (this project's own).
use Rattle.ymx_memory.specs.declared.refused.RefusedAllocation.{RefusedAllocation}

-- its one value
abbrev pub evidence : RefusedAllocation
evidence = record { seal = tt }
