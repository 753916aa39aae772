-- The limits that users are told, each said once. The constants of the code are proved equal to these. (Own.)
use Rattle.std.specs.Prelude.{ℕ}

-- ---- texts

-- bytes of a job file
abbrev pub most_job_file : ℕ
most_job_file = 1048576

-- bytes of a line of a job file
abbrev pub most_line : ℕ
most_line = 4096

-- bytes of one text, hence of a piece of it, and of a length that items are compared with
abbrev pub most_text : ℕ
most_text = 67108864

-- bytes of all texts of a run
abbrev pub most_texts : ℕ
most_texts = 268435456

-- ---- lists

-- items of one list, hence indexes that are worked on, and a count of items that a job file says
abbrev pub most_items : ℕ
most_items = 8388608

-- bytes of the items of one list together
abbrev pub most_bytes : ℕ
most_bytes = 536870912

-- the end of a batch that a store takes
abbrev pub most_end : ℕ
most_end = 8388608

-- ---- workers, futures and pools

-- workers of a job
abbrev pub most_workers : ℕ
most_workers = 32

-- items that one claim asks for
abbrev pub most_block : ℕ
most_block = 65536

-- how many passes are ever made of one future
abbrev pub most_passes : ℕ
most_passes = 65536

-- threads that a pool may have
abbrev pub most_threads : ℕ
most_threads = 1024

-- threads of a pool that may be reserved
abbrev pub most_reserved : ℕ
most_reserved = 65536

-- ---- what a job file says

abbrev pub most_jobs : ℕ
most_jobs = 64

-- bytes of a job's name
abbrev pub most_name : ℕ
most_name = 64

-- texts of `input files`, and jobs of `input all` and `input any`
abbrev pub most_sources : ℕ
most_sources = 64

-- lines `then`, `on-failed` and `on-canceled` of a job
abbrev pub most_chain : ℕ
most_chain = 8

-- sizes of blocks that a job lists
abbrev pub most_blocks : ℕ
most_blocks = 16

-- fields, counted from 1
abbrev pub most_field : ℕ
most_field = 1000

-- digits of a number in a job file
abbrev pub most_digits : ℕ
most_digits = 10

-- digits of an item that is added as a number
abbrev pub most_number_digits : ℕ
most_number_digits = 19

abbrev pub most_priority : ℕ
most_priority = 2147483647

-- without its sign
abbrev pub least_priority : ℕ
least_priority = 2147483648

-- ---- what holds where a job file says nothing

abbrev pub default_workers : ℕ
default_workers = 4

abbrev pub default_block : ℕ
default_block = 16
