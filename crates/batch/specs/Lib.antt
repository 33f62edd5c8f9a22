-- Document 01, part 6: the batch.
--
--   Batch  ==  what a batch returns, and every lent place afterwards
--   Judge  ==  the verdict on a batch
pub mod Batch
pub mod Judge
