-- What the faults of loading and of reading are for a job file. (Own.)
use Rattle.qtc_outside.specs.declared.loading.LoadFault.{LoadFault}
use Rattle.qtc_outside.specs.declared.loading.LoadFault.TheVariants as load
use Rattle.qtc_job.specs.declared.faults.ParseFault.{ParseFault}
use Rattle.qtc_job.specs.declared.faults.ParseFault.TheVariants as parse
use Rattle.qtc_load.specs.declared.faults.FileFault.{FileFault}
use Rattle.qtc_load.specs.declared.faults.FileFault.TheVariants.{Bad, Read, TooLong, Memory}

abbrev pub of_load : LoadFault → FileFault
of_load load.Read = Read
of_load load.TooLong = TooLong
of_load load.Memory = Memory

abbrev pub of_parse : ParseFault → FileFault
of_parse (parse.Bad bad) = Bad bad
of_parse parse.Memory = Memory
