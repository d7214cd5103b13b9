mod Backward
