-- The classes of ServiceLevels (OPC 10000-4, 6.6.2.4.2).
use Rattle.std.specs.Prelude.{ℕ, ◌==◌, nat_lt, if◌then◌else◌}
use Rattle.redundancy_nodes.specs.declared.class.Class.{Class}
use Rattle.redundancy_nodes.specs.declared.class.Class.TheVariants.{Maintenance, NoData, Degraded, Healthy}

abbrev pub class_of : ℕ → Class
class_of level =
    if level == 0 then Maintenance
    else if level == 1 then NoData
    else if nat_lt level 200 then Degraded
    else Healthy
